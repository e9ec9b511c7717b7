use Rattle.std.proofs.Common.{length, ap, sym, ◌∙◌}
use Rattle.vpn_base.specs.Acks.{acked}
use Rattle.reliable_send.specs.Sending.{Numbered}
use Rattle.reliable_send.specs.Sides.{first_id}
use Rattle.control_link.specs.internal.Sending.{pending}
use Rattle.control_link.proofs.Flushes.{first_is, none_left, nothing_sent, one_less, sent_first, spent_first}
use Rattle.control_link.proofs.sending.+send_pending.Goals as goal

pub returns-then-left-eq0-clause-sent : goal.returns-then-left-eq0-clause-sent
returns-then-left-eq0-clause-sent g t c = λ s h stands seals count.
    nothing_sent g.W.Wrap.wrapped c.args.side.now c.args.env.now c.args.out.now c.args.route.now (acked c.args.acks.now) c.args.now.0 (pending c.args.again s c.args.now.0) s h (none_left (pending c.args.again s c.args.now.0) (count ∙ c.if-left-eq0.true)) stands seals

pub returns-in-Ok-clause-sent : goal.returns-in-Ok-clause-sent
returns-in-Ok-clause-sent g t c = λ s h stands seals count.
    let ps = pending c.args.again s c.args.now.0 in
    let p : Numbered = (c.in-Some.piece.id, c.in-Some.piece.bytes.now) in
    let begins = first_is p ps (c.in-Some.ensures.exact s stands) in
    let one = c.in-Ok.ensures.sent h seals in
    let later = c.pending_shrinks.ensures c.args.again c.args.side.now s p begins.rest c.args.now.0 stands begins.is in
    let counted = c.count_sent.ensures.stands s stands (ap first_id begins.is) in
    let left = ap length later ∙ one_less (length begins.rest) c.args.left (sym (ap length begins.is) ∙ count) in
    sent_first g.W.Wrap.wrapped c.send_pending.new.side c.send_pending.new.env c.stage_piece.new.env c.args.out.now c.stage_piece.new.out c.send_pending.new.out c.args.route.now (acked c.args.acks.now) c.args.now.0 ps _ p s h c.send_pending.result begins one later (c.send_pending.ensures.sent _ _ counted one.1 left)

pub returns-in-Err-clause-sent : goal.returns-in-Err-clause-sent
returns-in-Err-clause-sent g t c = λ s h stands seals count.
    let ps = pending c.args.again s c.args.now.0 in
    let p : Numbered = (c.in-Some.piece.id, c.in-Some.piece.bytes.now) in
    let begins = first_is p ps (c.in-Some.ensures.exact s stands) in
    spent_first g.W.Wrap.wrapped c.args.side.now c.stage_piece.new.env c.args.out.now c.stage_piece.new.out c.args.route.now (acked c.args.acks.now) c.args.now.0 ps p s h _ begins stands (c.in-Err.ensures.sent h seals)
