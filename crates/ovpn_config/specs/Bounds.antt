-- What holds of the settings of every file.
use Rattle.std.specs.Prelude.{ℕ, ◌*◌, ◌≤◌, Some, None, IsTrue, IsSome, IfSome, All}
use Rattle.vpn_base.specs.declared.names.Role.{Role}
use Rattle.vpn_base.specs.declared.names.Role.TheVariants.{Server, Client}
use Rattle.vpn_base.specs.declared.address.Addr.{Addr}
use Rattle.vpn_base.specs.declared.names.Policy.{Policy}
use Rattle.vpn_base.specs.declared.names.Policy.TheVariants.{Choose, Fixed}
use Rattle.vpn_base.specs.Network.{Network}
use Rattle.vpn_text.specs.Quoted.{may_be_pushed}
use Rattle.config_directives.specs.declared.numbers.NumberDirective.{NumberDirective}
use Rattle.config_directives.specs.declared.numbers.NumberDirective.TheVariants as numbers
use Rattle.config_directives.specs.Arguments.{is_other}
use Rattle.config_directives.specs.Numbers.{range_of}
use Rattle.ovpn_config.specs.declared.settings.Settings.{Settings}

-- a server has a network, and a client a server to connect to
abbrev pub HasEnd : Role → Settings → Type 0
HasEnd Server s = IsSome s.net
HasEnd Client s = IsSome s.remote

-- a mask of 8 to 30 ones
abbrev pub IsServerMask : Network → Type 0
IsServerMask n = (8 ≤ n.len) × (n.len ≤ 30)

-- seconds from one ping to the next, and at least twice as many to a restart
abbrev pub AreSeconds : ℕ × ℕ → Type 0
AreSeconds t = (1 ≤ t.0) × (t.0 ≤ 3600) × (2 * t.0 ≤ t.1) × (t.1 ≤ 7200)

-- in the range of a directive
abbrev pub IsInRange : NumberDirective → ℕ → Type 0
IsInRange number n = ((range_of number).low ≤ n) × (n ≤ (range_of number).high)

-- one cipher to choose, or two that differ
abbrev pub AreCiphers : Policy → Type 0
AreCiphers (Choose first None) = Unit {0}
AreCiphers (Choose first (Some second)) = IsTrue (is_other first second)
AreCiphers (Fixed only) = ⊥

-- each number is in the range of its directive, also the port of `remote`; each text that is pushed may be,
-- and there are ciphers to choose from
pub record IsBounded (s : Settings) : Type 0 where
  pub ends : HasEnd s.role s
  pub port : IsInRange numbers.Port s.port
  pub remote : IfSome s.remote (λ (to : Addr). IsInRange numbers.Port to.port)
  pub net : IfSome s.net IsServerMask
  pub keepalive : IfSome s.keepalive AreSeconds
  pub max_clients : IsInRange numbers.MaxClients s.max_clients
  pub pushes : All (λ text. IsTrue (may_be_pushed text)) s.pushes
  pub ciphers : AreCiphers s.ciphers
  pub reneg : IsInRange numbers.RenegSec s.timers.reneg
  pub tran : IsInRange numbers.TranWindow s.timers.tran
  pub hand : IsInRange numbers.HandWindow s.timers.hand
  pub timeout : IsInRange numbers.TlsTimeout s.timers.timeout
  pub win : (1 ≤ s.timers.win) × (s.timers.win ≤ 1024)
  pub win_secs : s.timers.win_secs ≤ 600
