use Rattle.std.proofs.Common.{◌≡◌, ℕ, List, refl, sym, subst}
use Rattle.std.specs.Prelude.{Option, Some}
use Rattle.vpn_top.specs.Answer.{Told}
use Rattle.vpn_top.specs.Replay.{RanReplay}
use Rattle.vpn_top.specs.Written.{Run}
use Rattle.vpn_top.specs.declared.refusal.Refusal.{Refusal}
use Rattle.vpn_top.proofs.Replays.{replay_told}
use Rattle.vpn_top.proofs.top.run_replay.Goals as goal

pub returns-in-None-clause-finished : goal.returns-in-None-clause-finished
returns-in-None-clause-finished g c =
    let holds = g.F.Files.holds c.args.files in
    let p = c.replay-refusal.result in
    let err : ℕ × ℕ = (g.E.Sink.faults c.args.err.now, g.E.Sink.faults c.args.err.now) in
    let run : Run = record {
      before = g.S.Sink.contents c.args.out;
      after = g.S.Sink.contents p.2;
      files = (g.F.Files.faults c.args.files, g.F.Files.faults p.1);
      out = (g.S.Sink.faults c.args.out, g.S.Sink.faults p.2);
      err = err;
    } in
    let same : g.F.Files.holds c.load_server.new.files ≡ holds = λ i n. c.load_server.ensures.kept n i in
    let ran = c.replay-refusal.ensures.ran holds c.as_bytes.result.now (g.F.Files.faults c.args.files) err (sym same) c.load_server.ensures.never_falls c.in-Ok.ensures.ok in
    let named = subst (λ (config : List ℕ). RanReplay holds config c.as_bytes-2.result.now p.0 c.as_bytes-2.result.now run) c.as_bytes.ensures.value ran in
    let both = subst (λ (schedule : List ℕ). RanReplay holds c.args.config.now schedule p.0 schedule run) c.as_bytes-2.ensures.value named in
    record {
      subject = c.args.schedule.now;
      ran = subst (λ (r : Option Refusal). RanReplay holds c.args.config.now c.args.schedule.now r c.args.schedule.now run) c.in-None.is both;
      told = refl;
    }

pub returns-in-Some-clause-finished : goal.returns-in-Some-clause-finished
returns-in-Some-clause-finished g c =
    let holds = g.F.Files.holds c.args.files in
    let p = c.replay-refusal.result in
    let err : ℕ × ℕ = (g.E.Sink.faults c.args.err.now, g.E.Sink.faults c.tell-told-in-Some.new.err) in
    let run : Run = record {
      before = g.S.Sink.contents c.args.out;
      after = g.S.Sink.contents p.2;
      files = (g.F.Files.faults c.args.files, g.F.Files.faults p.1);
      out = (g.S.Sink.faults c.args.out, g.S.Sink.faults p.2);
      err = err;
    } in
    let same : g.F.Files.holds c.load_server.new.files ≡ holds = λ i n. c.load_server.ensures.kept n i in
    let ran = c.replay-refusal.ensures.ran holds c.as_bytes.result.now (g.F.Files.faults c.args.files) err (sym same) c.load_server.ensures.never_falls c.in-Ok.ensures.ok in
    let named = subst (λ (config : List ℕ). RanReplay holds config c.as_bytes-2.result.now p.0 c.as_bytes-2.result.now run) c.as_bytes.ensures.value ran in
    let both = subst (λ (schedule : List ℕ). RanReplay holds c.args.config.now schedule p.0 schedule run) c.as_bytes-2.ensures.value named in
    let refused = subst (λ (r : Option Refusal). RanReplay holds c.args.config.now c.args.schedule.now r c.args.schedule.now run) c.in-Some.is both in
    record {
      subject = c.args.schedule.now;
      ran = replay_told c.in-Some.refusal c.tell-told-in-Some.result holds c.args.config.now c.args.schedule.now c.args.schedule.now run refused c.tell-told-in-Some.ensures.told.0;
      told = subst (λ (subject : List ℕ). Told subject (Some c.tell-told-in-Some.result) run.err (g.E.Sink.contents c.args.err.now) (g.E.Sink.contents c.tell-told-in-Some.new.err)) c.as_bytes-in-Some.ensures.value
          c.tell-told-in-Some.ensures.told.1;
    }
