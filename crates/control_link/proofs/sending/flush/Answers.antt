use Rattle.std.proofs.Common.{ℕ, take, ap, sym}
use Rattle.vpn_base.specs.Acks.{acked}
use Rattle.control_link.specs.internal.Sending.{pending}
use Rattle.control_link.proofs.Flushes.{ack_flushed, counted_none, none_left, nothing_flushed, other_count, pieces_flushed, some_left}
use Rattle.control_link.proofs.sending.flush.Goals as goal

pub returns-then-left-gt0-clause-sent : goal.returns-then-left-gt0-clause-sent
returns-then-left-gt0-clause-sent g c = λ s h stands seals.
    let count = c.count_pending-left.ensures.exact s stands in
    pieces_flushed g.W.Wrap.wrapped c.send_pending.new.side c.send_pending.new.env c.args.out.now c.send_pending.new.out c.args.route.now (acked c.args.acks.now) c.args.now.0 (pending c.args.again s c.args.now.0) s h c.send_pending.result
    (some_left c.count_pending-left.result _ c.if-left-gt0.true count) (c.send_pending.ensures.sent s h stands seals (sym count))

pub returns-then-acks-eq0-clause-sent : goal.returns-then-acks-eq0-clause-sent
returns-then-acks-eq0-clause-sent g c = λ s h stands seals.
    let none = none_left (pending c.args.again s c.args.now.0) (counted_none c.count_pending-left.result _ c.if-left-gt0.false (c.count_pending-left.ensures.exact s stands)) in
    nothing_flushed g.W.Wrap.wrapped c.args.side.now c.args.env.now c.args.out.now c.args.route.now (acked c.args.acks.now) c.args.now.0 (pending c.args.again s c.args.now.0) s h none (ap (λ (n : ℕ). take n c.args.acks.now.ids) c.if-acks-eq0.true) stands seals

pub returns-clause-sent : goal.returns-clause-sent
returns-clause-sent g c = λ s h stands seals.
    let none = none_left (pending c.args.again s c.args.now.0) (counted_none c.count_pending-left.result _ c.if-left-gt0.false (c.count_pending-left.ensures.exact s stands)) in
    ack_flushed g.W.Wrap.wrapped c.args.side.now c.stage_ack.new.env c.args.out.now c.stage_ack.new.out c.args.route.now (acked c.args.acks.now) c.args.now.0 (pending c.args.again s c.args.now.0) s h c.stage_ack.result none (other_count _ _ c.if-acks-eq0.false c.acked_ids.ensures.count) stands (c.stage_ack.ensures.sent h seals)
