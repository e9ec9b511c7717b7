-- How the reading of a configuration and of its static key ends.
use Rattle.std.specs.Prelude.{◌≡◌, ℕ, List, [], Option, Some, None, Ok, Err}
use Rattle.vpn_base.specs.Answers.{Rose}
use Rattle.vpn_base.specs.Files.{Holding, Absent, IsMissing}
use Rattle.vpn_base.specs.declared.outside.FileFault.{FileFault}
use Rattle.vpn_base.specs.declared.outside.FileFault.TheVariants as faults
use Rattle.tls_crypt.specs.declared.static_key.KeyFault.{KeyFault}
use Rattle.tls_crypt.specs.StaticKey.{static_key}
use Rattle.ovpn_config.specs.declared.settings.KeyPlace.{KeyPlace}
use Rattle.ovpn_config.specs.declared.settings.KeyPlace.TheVariants.{Named}
use Rattle.vpn_top.specs.declared.loading.Refused.{Refused}
use Rattle.vpn_top.specs.declared.refusal.Refusal.{Refusal}
use Rattle.vpn_top.specs.declared.refusal.Refusal.TheVariants as refusals
use Rattle.vpn_base.specs.Sink.{appended}
use Rattle.vpn_top.specs.Partly.{AppendedPart}
use Rattle.vpn_top.specs.Configuration.{IsFrontOf, Misconfigured, Miskeyed}

-- the refusal, if there is one
abbrev pub refusal_in : Option Refused → Option Refusal
refusal_in None = None
refusal_in (Some r) = Some r.refusal

-- what its line names
abbrev pub subject_in : Option Refused → List ℕ
subject_in None = []
subject_in (Some r) = r.subject

-- a file is not there, or could not be read
abbrev pub IsGone : Holding → ℕ × ℕ → Refusal → Type 0
IsGone holding files refusals.Missing = IsMissing holding
IsGone holding files refusals.Unreadable = (¬ (holding ≡ Absent)) × Rose files.0 files.1
IsGone holding files _ = ⊥

-- the configuration of this name is faulty, its file is not there or could not be read, or memory is short
abbrev pub ConfigEnded : (List ℕ → Holding) → List ℕ → ℕ × ℕ → Refusal → List ℕ → Type 0
ConfigEnded holds name files (refusals.Config line kind) subject = Misconfigured (holds name) (record { line = line; kind = kind; word = subject })
ConfigEnded holds name files refusals.Missing subject = (subject ≡ name) × IsGone (holds name) files refusals.Missing
ConfigEnded holds name files refusals.Unreadable subject = (subject ≡ name) × IsGone (holds name) files refusals.Unreadable
ConfigEnded holds name files refusals.NoMemory subject = Unit {0}
ConfigEnded holds name files _ subject = ⊥

-- the text of the static key is faulty, its file is not there or could not be read, or memory is short
abbrev pub KeyEnded : (List ℕ → Holding) → KeyPlace → ℕ × ℕ → Refusal → List ℕ → Type 0
KeyEnded holds place files (refusals.Key fault) subject = Miskeyed holds place fault
KeyEnded holds place files refusals.Missing subject = (place ≡ Named subject) × IsGone (holds subject) files refusals.Missing
KeyEnded holds place files refusals.Unreadable subject = (place ≡ Named subject) × IsGone (holds subject) files refusals.Unreadable
KeyEnded holds place files refusals.NoMemory subject = Unit {0}
KeyEnded holds place files _ subject = ⊥

-- what a file's fault is refused as
abbrev pub gone_refusal : FileFault → Refusal
gone_refusal faults.Missing = refusals.Missing
gone_refusal faults.Failed = refusals.Unreadable

-- a text is refused with its fault
pub record LacksKey (text : List ℕ) (refusal : Refusal) : Type 0 where
  pub fault : KeyFault
  pub is : refusal ≡ refusals.Key fault
  pub refused : static_key text ≡ Err fault

-- the front of a file that counts holds this static key
pub record HoldsKey (holding : Holding) (key : List ℕ) : Type 0 where
  pub bytes : List ℕ
  pub text : IsFrontOf 65536 holding bytes
  pub accepted : static_key bytes ≡ Ok key

-- the front of a file that counts has this fault of a static key
pub record MiskeyedBy (holding : Holding) (fault : KeyFault) : Type 0 where
  pub bytes : List ℕ
  pub text : IsFrontOf 65536 holding bytes
  pub refused : static_key bytes ≡ Err fault

-- the same of a static key in a file
abbrev pub KeyFileEnded : (List ℕ → Holding) → List ℕ → ℕ × ℕ → Refusal → List ℕ → Type 0
KeyFileEnded holds name files (refusals.Key fault) subject = MiskeyedBy (holds name) fault
KeyFileEnded holds name files refusals.Missing subject = (subject ≡ name) × IsGone (holds name) files refusals.Missing
KeyFileEnded holds name files refusals.Unreadable subject = (subject ≡ name) × IsGone (holds name) files refusals.Unreadable
KeyFileEnded holds name files refusals.NoMemory subject = Unit {0}
KeyFileEnded holds name files _ subject = ⊥

-- a text was written, or a front of it
abbrev pub Printing : List ℕ → Option (List ℕ) → Option (List ℕ) → ℕ × ℕ → Option Refusal → Type 0
Printing text before after out None = after ≡ appended before text
Printing text before after out (Some refusals.Output) = Rose out.0 out.1 × AppendedPart before after text
Printing text before after out (Some refusals.NoMemory) = after ≡ before
Printing text before after out (Some _) = ⊥
