use Rattle.std.proofs.Common.{subst, sym}
use Rattle.vpn_base.specs.Acks.{acked}
use Rattle.control_link.specs.Links.{KeptLink, LinkStands}
use Rattle.control_link.specs.internal.Sending.{pending}
use Rattle.control_link.proofs.Leaving.{end_by_flush, left_by_flush, sides_of}
use Rattle.control_link.proofs.link.ControlLink.send_all.Goals as goal

pub returns-clause-left : goal.returns-clause-left
returns-clause-left g c = λ l h stands seals.
    let sides = sides_of _ l (subst (λ (k : KeptLink). LinkStands k l) (sym c.self.view_is) stands) in
    left_by_flush g.W.Wrap.wrapped (record { conn = c.self.inside.conn; kid = c.self.inside.kid; first = c.self.inside.first; sending = c.flush-sent.new.side; receiving = c.self.inside.receiving; spent = c.is_err-self-inside.result }) c.flush-sent.new.env c.args.out.now c.flush-sent.new.out (record { kid = c.self.inside.kid; first = c.self.inside.first; remote = c.args.remote; to = c.args.to }) l (acked c.args.acks.now) c.args.now.0 (pending c.args.again l.sending c.args.now.0) l.sending h c.flush-sent.result
    sides.conn sides.kid sides.first sides.kid sides.first sides.receiving c.is_err-self-inside.ensures.value (c.flush-sent.ensures.sent l.sending h sides.sending seals)

pub returns-clause-answer : goal.returns-clause-answer
returns-clause-answer g c = λ l h stands seals.
    let sides = sides_of _ l (subst (λ (k : KeptLink). LinkStands k l) (sym c.self.view_is) stands) in
    end_by_flush g.W.Wrap.wrapped (record { conn = c.self.inside.conn; kid = c.self.inside.kid; first = c.self.inside.first; sending = c.flush-sent.new.side; receiving = c.self.inside.receiving; spent = c.is_err-self-inside.result }) c.flush-sent.new.env c.args.out.now c.flush-sent.new.out (record { kid = c.self.inside.kid; first = c.self.inside.first; remote = c.args.remote; to = c.args.to }) l (acked c.args.acks.now) c.args.now.0 (pending c.args.again l.sending c.args.now.0) l.sending h c.flush-sent.result
    sides.kid sides.first (c.flush-sent.ensures.sent l.sending h sides.sending seals)
