-- The words of a command line, after the program's name.
use Rattle.std.specs.Prelude.{ℕ, List, [], ◌∷◌, codes, Option, Some, None, if◌then◌else◌}
use Rattle.std.specs.Str.{bytes_eq}
use Rattle.vpn_base.specs.declared.names.Role.{Role}
use Rattle.vpn_base.specs.declared.names.Role.TheVariants as roles

-- a command, with the names of its files
pub data Command : Type 0 where
  Route : List ℕ → Command
  Check : List ℕ → Command
  Replay : List ℕ → List ℕ → Command

-- `route FILE`, `check FILE` and `replay CONFIG SCHEDULE`
abbrev pub command_of : List (List ℕ) → Option Command
command_of (command ∷ name ∷ []) =
    if bytes_eq command (codes "route") then Some (Route name)
    else if bytes_eq command (codes "check") then Some (Check name)
    else None
command_of (command ∷ config ∷ schedule ∷ []) = if bytes_eq command (codes "replay") then Some (Replay config schedule) else None
command_of _ = None

-- the configuration that a command reads
abbrev pub configuration_of : Command → Option (List ℕ)
configuration_of (Route name) = None
configuration_of (Check name) = Some name
configuration_of (Replay config schedule) = Some config

-- a command takes a configuration of this role: one that runs a server takes no client's
abbrev pub TakesRole : Command → Role → Type 0
TakesRole (Replay config schedule) roles.Server = Unit {0}
TakesRole (Replay config schedule) roles.Client = ⊥
TakesRole command role = Unit {0}
