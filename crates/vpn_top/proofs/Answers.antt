-- What an end of a run answers.
use Rattle.std.proofs.Common.{◌≡◌, ℕ, List, length, ap, ◌∙◌, sym, inl, inr}
use Rattle.std.specs.Prelude.{◌⊎◌, Option, Some}
use Rattle.std.proofs.Math.Seq.{take-length}
use Rattle.vpn_base.specs.Answers.{Rose}
use Rattle.vpn_base.specs.Files.{Holding}
use Rattle.vpn_base.specs.Sink.{appended}
use Rattle.schedule_text.specs.declared.kind.TextKind.{TextKind}
use Rattle.route_file.specs.Output.{routes}
use Rattle.vpn_top.specs.declared.refusal.Refusal.{Refusal}
use Rattle.vpn_top.specs.declared.refusal.Refusal.TheVariants as refusals
use Rattle.vpn_top.specs.Messages.{refusal_line}
use Rattle.vpn_top.specs.Written.{Printed, PrintedPart, Run}
use Rattle.vpn_top.specs.internal.Ends.{Ended, Counts}
use Rattle.vpn_top.specs.Answer.{RanRoute, Told}
use Rattle.vpn_top.proofs.Runs.{file_of}

-- the line of a refusal tells it
pub told_line : (name : List ℕ) (r : Refusal) (faults : ℕ × ℕ) (before after : Option (List ℕ)) (line : List ℕ) → after ≡ appended before line → line ≡ refusal_line name r →
    Told name (Some r) faults before after
told_line name refusals.Usage faults before after line wrote is = wrote ∙ ap (appended before) is
told_line name refusals.NotServer faults before after line wrote is = wrote ∙ ap (appended before) is
told_line name (refusals.Schedule number kind) faults before after line wrote is = wrote ∙ ap (appended before) is
told_line name refusals.TurnsSpent faults before after line wrote is = wrote ∙ ap (appended before) is
told_line name (refusals.Line fault) faults before after line wrote is = wrote ∙ ap (appended before) is
told_line name (refusals.Config number kind) faults before after line wrote is = wrote ∙ ap (appended before) is
told_line name (refusals.Key fault) faults before after line wrote is = wrote ∙ ap (appended before) is
told_line name refusals.Missing faults before after line wrote is = wrote ∙ ap (appended before) is
told_line name refusals.Unreadable faults before after line wrote is = wrote ∙ ap (appended before) is
told_line name refusals.Output faults before after line wrote is = inl (wrote ∙ ap (appended before) is)
told_line name refusals.NoMemory faults before after line wrote is = wrote ∙ ap (appended before) is

-- all of an output is a front of it
printed_part : (h : Holding) (before after : Option (List ℕ)) (fault : Option (ℕ × TextKind)) → Printed h before after fault → PrintedPart h before after
printed_part h before after fault p = record {
  bytes = p.bytes;
  length = length (routes p.bytes).printed;
  file = file_of h p.bytes p.whole;
  written = p.written ∙ ap (appended before) (sym (take-length (routes p.bytes).printed));
}

part_of_end : (r : Refusal) (h : Holding) (before after : Option (List ℕ)) (counts : Counts) → Ended (Some r) h before after counts → PrintedPart h before after
part_of_end refusals.Usage h before after counts end = absurd end
part_of_end refusals.NotServer h before after counts end = absurd end
part_of_end (refusals.Schedule number kind) h before after counts end = absurd end
part_of_end refusals.TurnsSpent h before after counts end = absurd end
part_of_end (refusals.Line fault) h before after counts end = printed_part h before after (Some (fault.line, fault.kind)) end
part_of_end (refusals.Config number kind) h before after counts end = absurd end
part_of_end (refusals.Key fault) h before after counts end = absurd end
part_of_end refusals.Missing h before after counts end = end.1
part_of_end refusals.Unreadable h before after counts end = end.2
part_of_end refusals.Output h before after counts end = end.1
part_of_end refusals.NoMemory h before after counts end = end

abbrev pub counts_of : Run → Counts
counts_of run = record { files_before = run.files.0; files_after = run.files.1; out_before = run.out.0; out_after = run.out.1 }

ran_route : (r : Refusal) (h : Holding) (run : Run) → Ended (Some r) h run.before run.after (counts_of run) → RanRoute (Some r) h run
ran_route refusals.Usage h run end = end
ran_route refusals.NotServer h run end = end
ran_route (refusals.Schedule number kind) h run end = end
ran_route refusals.TurnsSpent h run end = end
ran_route (refusals.Line fault) h run end = end
ran_route (refusals.Config number kind) h run end = end
ran_route (refusals.Key fault) h run end = end
ran_route refusals.Missing h run end = end
ran_route refusals.Unreadable h run end = end
ran_route refusals.Output h run end = (inl end.0, end.1)
ran_route refusals.NoMemory h run end = end

-- the refusal that is told is the one that the run ended by, or one that came in telling it
pub ran_told : (r told : Refusal) (h : Holding) (run : Run) → Ended (Some r) h run.before run.after (counts_of run) →
    ((told ≡ r) ⊎ (told ≡ refusals.NoMemory) ⊎ ((told ≡ refusals.Output) × Rose run.err.0 run.err.1)) → RanRoute (Some told) h run
ran_told r told h run end (inl same) = rw same (ran_route r h run end)
ran_told r told h run end (inr (inl memory)) = rw memory (part_of_end r h run.before run.after (counts_of run) end)
ran_told r told h run end (inr (inr failed)) = rw failed.0 (inr failed.1, part_of_end r h run.before run.after (counts_of run) end)
