use Rattle.std.proofs.Common.{ℕ, List, Some, subst}
use Rattle.vpn_top.specs.Answer.{Told}
use Rattle.vpn_top.specs.Check.{RanCheck}
use Rattle.vpn_top.specs.Written.{Run}
use Rattle.vpn_top.proofs.Checks.{check_told}
use Rattle.vpn_top.proofs.top.run_check.Goals as goal

pub returns-in-Some-clause-finished : goal.returns-in-Some-clause-finished
returns-in-Some-clause-finished g c =
    let run : Run = record {
      before = g.S.Sink.contents c.args.out.now;
      after = g.S.Sink.contents c.check.new.out;
      files = (g.F.Files.faults c.args.files.now, g.F.Files.faults c.check.new.files);
      out = (g.S.Sink.faults c.args.out.now, g.S.Sink.faults c.check.new.out);
      err = (g.E.Sink.faults c.args.err.now, g.E.Sink.faults c.tell.new.err);
    } in
    let ran = subst (λ (name : List ℕ). RanCheck (g.F.Files.holds c.args.files.now) name (Some c.in-Some.refused.refusal) c.in-Some.refused.subject run) c.as_bytes.ensures.value (c.in-Some.ensures.ran run.err) in
    record {
      subject = c.in-Some.refused.subject;
      ran = check_told c.in-Some.refused.refusal c.tell.result (g.F.Files.holds c.args.files.now) c.args.name.now c.in-Some.refused.subject run ran c.tell.ensures.told.0;
      told = subst (λ (subject : List ℕ). Told subject (Some c.tell.result) run.err (g.E.Sink.contents c.args.err.now) (g.E.Sink.contents c.tell.new.err)) c.as_slice.ensures c.tell.ensures.told.1;
    }
