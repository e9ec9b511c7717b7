use Rattle.std.proofs.Common.{subst}
use Rattle.vpn_base.specs.Files.{Holding}
use Rattle.vpn_top.specs.internal.Ends.{Ended}
use Rattle.vpn_top.specs.internal.Going.{Going}
use Rattle.vpn_top.proofs.Counting.{ended_since}
use Rattle.vpn_top.proofs.route.route_pieces.Goals as goal

pub returns-in-End-clause-ended : goal.returns-in-End-clause-ended
returns-in-End-clause-ended g c =
    let contents = g.S.Sink.contents in
    let before = contents c.args.out.now in
    let holding = g.F.Files.holds c.args.files.now c.args.name.now in
    let files = g.F.Files.faults in
    let out = g.S.Sink.faults in
    let end : Ended c.in-End.refusal holding before (contents c.take_turn.new.out)
    (record { files_before = files c.loop-next.files; files_after = files c.take_turn.new.files; out_before = out c.loop-next.out; out_after = out c.take_turn.new.out }) =
    subst (λ (h : Holding). Going h before (contents c.loop-next.out) c.loop-next.at c.loop-next.reader →
    Ended c.in-End.refusal h before (contents c.take_turn.new.out)
    (record { files_before = files c.loop-next.files; files_after = files c.take_turn.new.files; out_before = out c.loop-next.out; out_after = out c.take_turn.new.out }))
    (c.loop-next.invariant.kept c.args.name.now) (c.in-End.ensures.turned before) c.loop-next.invariant.going in
    ended_since c.in-End.refusal holding before (contents c.take_turn.new.out) (files c.args.files.now) (files c.loop-next.files) (files c.take_turn.new.files)
    (out c.args.out.now) (out c.loop-next.out) (out c.take_turn.new.out) c.loop-next.invariant.files_count c.loop-next.invariant.out_count end
