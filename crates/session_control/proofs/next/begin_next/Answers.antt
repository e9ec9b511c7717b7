use Rattle.std.proofs.Common.{true, arith}
use Rattle.peer_table.specs.ControlPackets.{begun_by}
use Rattle.peer_table.specs.Outboxes.{incoming}
use Rattle.session_state.specs.Ready.{IsReady}
use Rattle.session_state.specs.Standing.{PeerStands}
use Rattle.session_control.proofs.Taking.{left_reserved}
use Rattle.session_control.proofs.next.begin_next.Goals as goal

pub returns-in-Ok-clause-left : goal.returns-in-Ok-clause-left
returns-in-Ok-clause-left g c = λ p established stands fresh.
    left_reserved (PeerStands g.W.Wrap.wrapped) c.begin_with.new.session c.args.out.now c.take_memory.new.out c.begin_with.new.out c.args.to
    (begun_by p (incoming c.args.opened.now c.args.view.now c.args.next_conn established c.args.now) true) c.take_memory.ensures.outbox
    (c.begin_with.ensures.left p established (c.take_memory.ensures.same p stands) fresh)

pub returns-in-Ok-clause-answer : goal.returns-in-Ok-clause-answer
returns-in-Ok-clause-answer g c = λ p established stands. c.begin_with.ensures.answer p established (c.take_memory.ensures.same p stands)

pub returns-in-Ok-clause-uses : goal.returns-in-Ok-clause-uses
unfolding IsReady
returns-in-Ok-clause-uses g c = λ from bytes effects room ready short.
    let grows = c.take_memory.ensures.grows in
    let used = c.begin_with.ensures.uses in
    record {
      effects_left = omega (arith, grows.effects_left, used.effects_left, ready.own.effects_fit);
      bytes_left = omega (arith, grows.bytes_left, used.bytes_left, ready.own.bytes_fit, short);
    }
