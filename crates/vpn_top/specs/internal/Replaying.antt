-- How a replay goes: its server is loaded, its run ends, and its end is told.
use Rattle.std.specs.Prelude.{◌≡◌, ℕ, zero, suc, Bool, true, false, List, Option, Some, None}
use Rattle.vpn_base.specs.Answers.{Rose}
use Rattle.vpn_base.specs.Files.{Holding, Absent, IsMissing}
use Rattle.vpn_base.specs.declared.names.Role.TheVariants as roles
use Rattle.vpn_links.specs.declared.links.LinkFault.TheVariants as faults
use Rattle.vpn_node.specs.declared.outcome.Outcome.{Outcome}
use Rattle.vpn_node.specs.declared.outcome.Outcome.TheVariants as outcomes
use Rattle.replay_links.specs.declared.end.ReplayEnd.{ReplayEnd}
use Rattle.replay_links.specs.declared.end.ReplayEnd.TheVariants as ends
use Rattle.vpn_top.specs.declared.refusal.Refusal.{Refusal}
use Rattle.vpn_top.specs.declared.refusal.Refusal.TheVariants as refusals
use Rattle.vpn_top.specs.declared.replay.Loaded.{Loaded}
use Rattle.vpn_top.specs.Configuration.{Configured, HasKey, Misconfigured}
use Rattle.vpn_top.specs.Replay.{IsBadServerKey, IsClient, IsWantedFirst}

-- ---- the server

-- these are the settings and the static key of a server's configuration
pub record IsLoaded (holds : List ℕ → Holding) (config : List ℕ) (l : Loaded) : Type 0 where
  pub configured : Configured (holds config) l.settings
  pub is_server : l.settings.role ≡ roles.Server
  pub keyed : HasKey holds l.settings.key l.key.0

-- the configuration, its role or its static key is refused, one of the two files is not there or could not be read, or memory is short
abbrev pub ServerEnded : (List ℕ → Holding) → List ℕ → ℕ × ℕ → Refusal → List ℕ → Type 0
ServerEnded holds config files (refusals.Config line kind) subject = Misconfigured (holds config) (record { line = line; kind = kind; word = subject })
ServerEnded holds config files refusals.NotServer subject = IsClient (holds config)
ServerEnded holds config files (refusals.Key fault) subject = IsBadServerKey (holds config) holds fault
ServerEnded holds config files refusals.Missing subject = IsWantedFirst holds config subject × IsMissing (holds subject)
ServerEnded holds config files refusals.Unreadable subject = IsWantedFirst holds config subject × (¬ (holds subject ≡ Absent)) × Rose files.0 files.1
ServerEnded holds config files refusals.NoMemory subject = Unit {0}
ServerEnded holds config files _ subject = ⊥

-- ---- the end of a run

-- what a schedule is refused for that gave no further event
abbrev pub unread_by : Option ReplayEnd → Refusal
unread_by (Some ends.Missing) = refusals.Missing
unread_by _ = refusals.Unreadable

-- the line of it that is refused; the end is one by a line
abbrev pub refused_by : Option ReplayEnd → Refusal
refused_by (Some (ends.Refused line kind)) = refusals.Schedule line kind
refused_by _ = refusals.NoMemory

-- a good end, unless something was left out for want of memory
abbrev pub stopped_by : ℕ → Option Refusal
stopped_by zero = None
stopped_by (suc n) = Some refusals.NoMemory

-- by what the run came to, where no line was cut
abbrev pub ended_by : Outcome → Option ReplayEnd → ℕ → Option Refusal
ended_by outcomes.Stopped ended left_out = stopped_by left_out
ended_by outcomes.TurnsSpent ended left_out = Some refusals.TurnsSpent
ended_by outcomes.Memory ended left_out = Some refusals.NoMemory
ended_by (outcomes.Fault faults.Input) ended left_out = Some (unread_by ended)
ended_by (outcomes.Fault faults.Schedule) ended left_out = Some (refused_by ended)
ended_by (outcomes.Fault fault) ended left_out = Some refusals.Output

-- what a run is refused for
abbrev pub refusal_by : Bool → Outcome → Option ReplayEnd → ℕ → Option Refusal
refusal_by true outcome ended left_out = Some refusals.Output
refusal_by false outcome ended left_out = ended_by outcome ended left_out
