use Rattle.std.proofs.Common.{ℕ, List, Some, refl, subst}
use Rattle.vpn_top.specs.Answer.{Told}
use Rattle.vpn_top.specs.Written.{Run}
use Rattle.vpn_top.proofs.Answers.{ran_told}
use Rattle.vpn_top.proofs.top.run_route.Goals as goal

pub returns-in-Some-clause-finished : goal.returns-in-Some-clause-finished
returns-in-Some-clause-finished g c =
    let run : Run = record {
      before = g.S.Sink.contents c.args.out.now;
      after = g.S.Sink.contents c.route.new.out;
      files = (g.F.Files.faults c.args.files.now, g.F.Files.faults c.route.new.files);
      out = (g.S.Sink.faults c.args.out.now, g.S.Sink.faults c.route.new.out);
      err = (g.E.Sink.faults c.args.err.now, g.E.Sink.faults c.tell.new.err);
    } in
    record {
      subject = c.args.name.now;
      ran = (refl, ran_told c.in-Some.refusal c.tell.result (g.F.Files.holds c.args.files.now c.args.name.now) run (rw c.as_bytes.ensures.value at c.in-Some.ensures.ended) c.tell.ensures.told.0);
      told = subst (λ (subject : List ℕ). Told subject (Some c.tell.result) run.err (g.E.Sink.contents c.args.err.now) (g.E.Sink.contents c.tell.new.err)) c.as_bytes-in-Some.ensures.value c.tell.ensures.told.1;
    }
