-- What `check` does: it prints the canonical text of a configuration, or refuses it.
use Rattle.std.specs.Prelude.{◌≡◌, ◌⊎◌, ℕ, List, Option, Some, None}
use Rattle.vpn_base.specs.Answers.{Rose}
use Rattle.vpn_base.specs.Files.{Holding, Absent, IsMissing}
use Rattle.vpn_base.specs.Sink.{appended}
use Rattle.tls_crypt.specs.declared.static_key.KeyFault.{KeyFault}
use Rattle.ovpn_config.specs.declared.settings.Settings.{Settings}
use Rattle.ovpn_config.specs.Canonical.{canonical}
use Rattle.vpn_top.specs.declared.refusal.Refusal.{Refusal}
use Rattle.vpn_top.specs.declared.refusal.Refusal.TheVariants as refusals
use Rattle.vpn_top.specs.Configuration.{Configured, IsWanted, Keyed, Misconfigured, Miskeyed}
use Rattle.vpn_top.specs.Partly.{AppendedPart}
use Rattle.vpn_top.specs.Written.{Run}

-- the configuration and its static key are accepted, and the canonical text was written
pub record Checked (holds : List ℕ → Holding) (name : List ℕ) (run : Run) : Type 0 where
  pub s : Settings
  pub configured : Configured (holds name) s
  pub keyed : Keyed holds s.key
  pub written : run.after ≡ appended run.before (canonical s)

-- the same, where a front of the text was written
pub record CheckedPart (holds : List ℕ → Holding) (name : List ℕ) (run : Run) : Type 0 where
  pub s : Settings
  pub configured : Configured (holds name) s
  pub keyed : Keyed holds s.key
  pub part : AppendedPart run.before run.after (canonical s)

-- the configuration is accepted, and its static key is refused
pub record IsBadKey (holding : Holding) (holds : List ℕ → Holding) (fault : KeyFault) : Type 0 where
  pub s : Settings
  pub configured : Configured holding s
  pub miskeyed : Miskeyed holds s.key fault

-- a front of the canonical text was written, or nothing
abbrev pub CheckedAtMost : (List ℕ → Holding) → List ℕ → Run → Type 0
CheckedAtMost holds name run = (run.after ≡ run.before) ⊎ CheckedPart holds name run

-- it was done; or the configuration or its static key is faulty, one of the two files is not there or could not be read, something could not be written, or memory is short. The subject is the word of a faulty line, or the name of a file
abbrev pub RanCheck : (List ℕ → Holding) → List ℕ → Option Refusal → List ℕ → Run → Type 0
RanCheck holds name None subject run = Checked holds name run
RanCheck holds name (Some refusals.Usage) subject run = ⊥
RanCheck holds name (Some (refusals.Line fault)) subject run = ⊥
RanCheck holds name (Some (refusals.Config line kind)) subject run =
    Misconfigured (holds name) (record { line = line; kind = kind; word = subject }) × (run.after ≡ run.before)
RanCheck holds name (Some (refusals.Key fault)) subject run = IsBadKey (holds name) holds fault × (run.after ≡ run.before)
RanCheck holds name (Some refusals.NotServer) subject run = ⊥
RanCheck holds name (Some (refusals.Schedule line kind)) subject run = ⊥
RanCheck holds name (Some refusals.TurnsSpent) subject run = ⊥
RanCheck holds name (Some refusals.Missing) subject run = IsWanted holds name subject × IsMissing (holds subject) × (run.after ≡ run.before)
RanCheck holds name (Some refusals.Unreadable) subject run =
    IsWanted holds name subject × (¬ (holds subject ≡ Absent)) × Rose run.files.0 run.files.1 × (run.after ≡ run.before)
RanCheck holds name (Some refusals.Output) subject run = (Rose run.out.0 run.out.1 ⊎ Rose run.err.0 run.err.1) × CheckedAtMost holds name run
RanCheck holds name (Some refusals.NoMemory) subject run = CheckedAtMost holds name run
