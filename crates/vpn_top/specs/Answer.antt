-- What the program answers: its exit status, with what it has written to the output and to the error output.
use Rattle.std.specs.Prelude.{◌≡◌, ◌⊎◌, ℕ, List, Option, Some, None}
use Rattle.vpn_base.specs.Answers.{Rose}
use Rattle.vpn_base.specs.Files.{Holding, Absent, IsMissing}
use Rattle.vpn_base.specs.Sink.{appended}
use Rattle.vpn_top.specs.declared.refusal.Refusal.{Refusal}
use Rattle.vpn_top.specs.declared.refusal.Refusal.TheVariants as refusals
use Rattle.vpn_top.specs.Messages.{refusal_line, status_of}
use Rattle.vpn_top.specs.Partly.{AppendedPart}
use Rattle.vpn_top.specs.Written.{Printed, PrintedPart, Run}
use Rattle.vpn_top.specs.Words.{Command, Route, Check, Replay}
use Rattle.vpn_top.specs.Check.{RanCheck}
use Rattle.vpn_top.specs.Replay.{RanReplay}

-- the exit status: 0 where everything was done
abbrev pub exit_status : Option Refusal → ℕ
exit_status None = 0
exit_status (Some refusal) = status_of refusal

-- with words that are no command nothing is written to the output
abbrev pub RanNothing : Option Refusal → Run → Type 0
RanNothing (Some refusals.Usage) run = run.after ≡ run.before
RanNothing (Some refusals.Output) run = Rose run.err.0 run.err.1 × (run.after ≡ run.before)
RanNothing (Some refusals.NoMemory) run = run.after ≡ run.before
RanNothing _ run = ⊥

-- `route` over a file: it was done; or a line is faulty, there is no file, it could not be read, something could not be written, or memory is short
abbrev pub RanRoute : Option Refusal → Holding → Run → Type 0
RanRoute None holding run = Printed holding run.before run.after None
RanRoute (Some refusals.Usage) holding run = ⊥
RanRoute (Some (refusals.Line fault)) holding run = Printed holding run.before run.after (Some (fault.line, fault.kind))
RanRoute (Some (refusals.Config line kind)) holding run = ⊥
RanRoute (Some (refusals.Key fault)) holding run = ⊥
RanRoute (Some refusals.NotServer) holding run = ⊥
RanRoute (Some (refusals.Schedule line kind)) holding run = ⊥
RanRoute (Some refusals.TurnsSpent) holding run = ⊥
RanRoute (Some refusals.Missing) holding run = IsMissing holding × PrintedPart holding run.before run.after
RanRoute (Some refusals.Unreadable) holding run = Rose run.files.0 run.files.1 × (¬ (holding ≡ Absent)) × PrintedPart holding run.before run.after
RanRoute (Some refusals.Output) holding run = (Rose run.out.0 run.out.1 ⊎ Rose run.err.0 run.err.1) × PrintedPart holding run.before run.after
RanRoute (Some refusals.NoMemory) holding run = PrintedPart holding run.before run.after

-- by the command that the words give; the subject is what a refusal's line names
abbrev pub Ran : Option Command → (List ℕ → Holding) → Option Refusal → List ℕ → Run → Type 0
Ran None holds refusal subject run = RanNothing refusal run
Ran (Some (Route name)) holds refusal subject run = (subject ≡ name) × RanRoute refusal (holds name) run
Ran (Some (Check name)) holds refusal subject run = RanCheck holds name refusal subject run
Ran (Some (Replay config schedule)) holds refusal subject run = RanReplay holds config schedule refusal subject run

-- a write to the error output failed, and a front of a refusal's line was written there
abbrev pub IsHalfTold : List ℕ → ℕ × ℕ → Option (List ℕ) → Option (List ℕ) → Type 0
IsHalfTold subject faults before after = Rose faults.0 faults.1 × ((refusal : Refusal) × AppendedPart before after (refusal_line subject refusal))

-- what was written to the error output, by its counts of faults before and after: nothing, or the refusal's line, which may be cut off only where the error output failed
abbrev pub Told : List ℕ → Option Refusal → ℕ × ℕ → Option (List ℕ) → Option (List ℕ) → Type 0
Told subject None faults before after = after ≡ before
Told subject (Some refusals.Output) faults before after = (after ≡ appended before (refusal_line subject refusals.Output)) ⊎ IsHalfTold subject faults before after
Told subject (Some refusal) faults before after = after ≡ appended before (refusal_line subject refusal)

-- what a command has written to the output and to the error output, by the refusal that it ended with
pub record Finished (command : Option Command) (holds : List ℕ → Holding) (refusal : Option Refusal) (run : Run) (err_before err_after : Option (List ℕ)) : Type 0 where
  pub subject : List ℕ
  pub ran : Ran command holds refusal subject run
  pub told : Told subject refusal run.err err_before err_after

-- the call ended in one of these ways, with its status
pub record Answered (command : Option Command) (holds : List ℕ → Holding) (status : ℕ) (run : Run) (err_before err_after : Option (List ℕ)) : Type 0 where
  pub refusal : Option Refusal
  pub status_is : status ≡ exit_status refusal
  pub finished : Finished command holds refusal run err_before err_after

-- the output or the error output failed, or memory is short
abbrev pub IsCutOff : ℕ → ℕ × ℕ → ℕ × ℕ → Type 0
IsCutOff status out err = ((status ≡ 6) × (Rose out.0 out.1 ⊎ Rose err.0 err.1)) ⊎ (status ≡ 8)
