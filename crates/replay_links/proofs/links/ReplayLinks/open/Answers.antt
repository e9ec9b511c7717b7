use Rattle.std.proofs.Common.{ap, arith}
use Rattle.replay_links.specs.Replay.{Replay, before_cut}
use Rattle.replay_links.proofs.Counts.{never_fall}
use Rattle.replay_links.proofs.links.ReplayLinks.open.Goals as goal

pub returns-then-is_missing-clause-never_falls : goal.returns-then-is_missing-clause-never_falls
returns-then-is_missing-clause-never_falls g c =
    let files = g.F.Files.faults in
    let out = g.S.Sink.faults in
    let is = c.miss.ensures.new in
    never_fall files out c.args.self.now c.miss.new.self
    (omega (arith, ap (λ (x : Replay _ _). files x.files) is)) (omega (arith, ap (λ (x : Replay _ _). out x.out) is))
    (omega (arith, ap (λ (x : Replay _ _). before_cut x.is_cut (out x.out)) is))
    c.miss.ensures.never_falls (omega (arith, ap (λ (x : Replay _ _). x.refused) is))

pub returns-in-Err-Why-Missing-clause-never_falls : goal.returns-in-Err-Why-Missing-clause-never_falls
returns-in-Err-Why-Missing-clause-never_falls g c =
    let files = g.F.Files.faults in
    let out = g.S.Sink.faults in
    let is = c.miss-in-Err-Why-Missing.ensures.new in
    let seen = c.self.view_is in
    never_fall files out c.args.self.now c.miss-in-Err-Why-Missing.new.self
    (omega (arith, ap (λ (x : Replay _ _). files x.files) is, ap (λ (x : Replay _ _). files x.files) seen, c.read_schedule.ensures.never_falls))
    (omega (arith, ap (λ (x : Replay _ _). out x.out) is, ap (λ (x : Replay _ _). out x.out) seen))
    (omega (arith, ap (λ (x : Replay _ _). before_cut x.is_cut (out x.out)) is, ap (λ (x : Replay _ _). before_cut x.is_cut (out x.out)) seen))
    (omega (arith, ap (λ (x : Replay _ _). x.missing) seen, c.miss-in-Err-Why-Missing.ensures.never_falls))
    (omega (arith, ap (λ (x : Replay _ _). x.refused) is, ap (λ (x : Replay _ _). x.refused) seen))
