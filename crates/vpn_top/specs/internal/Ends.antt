-- How the reading of a route file ends.
use Rattle.std.specs.Prelude.{◌≡◌, ℕ, ◌+◌, List, Option, Some, None}
use Rattle.vpn_base.specs.Answers.{Rose}
use Rattle.vpn_base.specs.Files.{Holding, Absent, IsMissing}
use Rattle.vpn_top.specs.declared.refusal.Refusal.{Refusal}
use Rattle.vpn_top.specs.declared.refusal.Refusal.TheVariants as refusals
use Rattle.vpn_top.specs.declared.route.Turn.{Turn}
use Rattle.vpn_top.specs.declared.route.Turn.TheVariants.{More, End}
use Rattle.vpn_top.specs.Written.{Printed, PrintedPart}
use Rattle.vpn_top.specs.internal.Going.{Going}
use Rattle.schedule_text.specs.declared.kind.TextKind.{TextKind}
use Rattle.route_file.specs.declared.state.RouteFault.{RouteFault}
use Rattle.route_file.specs.Progress.{Progress}

-- the counts of faults of the files and of the output, before and after
pub record Counts : Type 0 where
  pub files_before : ℕ
  pub files_after : ℕ
  pub out_before : ℕ
  pub out_after : ℕ

-- what an end says of the file, of the output before and after, and of the counts; without a refusal everything was done
abbrev pub Ended : Option Refusal → Holding → Option (List ℕ) → Option (List ℕ) → Counts → Type 0
Ended None holding before after counts = Printed holding before after None
Ended (Some refusals.Usage) holding before after counts = ⊥
Ended (Some (refusals.Line fault)) holding before after counts = Printed holding before after (Some (fault.line, fault.kind))
Ended (Some (refusals.Config line kind)) holding before after counts = ⊥
Ended (Some (refusals.Key fault)) holding before after counts = ⊥
Ended (Some refusals.NotServer) holding before after counts = ⊥
Ended (Some (refusals.Schedule line kind)) holding before after counts = ⊥
Ended (Some refusals.TurnsSpent) holding before after counts = ⊥
Ended (Some refusals.Missing) holding before after counts = IsMissing holding × PrintedPart holding before after
Ended (Some refusals.Unreadable) holding before after counts =
    Rose counts.files_before counts.files_after × (¬ (holding ≡ Absent)) × PrintedPart holding before after
Ended (Some refusals.Output) holding before after counts = Rose counts.out_before counts.out_after × PrintedPart holding before after
Ended (Some refusals.NoMemory) holding before after counts = PrintedPart holding before after

-- the fault of a line, if there is one
abbrev pub fault_of : Option RouteFault → Option (ℕ × TextKind)
fault_of None = None
fault_of (Some fault) = Some (fault.line, fault.kind)

-- what a turn says: so many bytes more were read and their output is written, or the run has ended
abbrev pub Turned : Turn → Holding → Option (List ℕ) → Option (List ℕ) → ℕ → Counts → Type 0
Turned (More reader n) holding before after at counts = Going holding before after (at + n) reader
Turned (End refusal) holding before after at counts = Ended refusal holding before after counts

-- a turn that goes on has this fact of the reader and of how many bytes it read
abbrev pub Went : Turn → (Progress → ℕ → Type 0) → Type 0
Went (More reader n) P = P reader n
Went (End refusal) P = Unit {0}
