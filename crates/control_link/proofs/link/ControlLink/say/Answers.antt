use Rattle.std.proofs.Common.{◌≡◌, true, [], Some, ap, subst, sym, ◌∙◌}
use Rattle.reliable_send.specs.Sending.{Sending, is_full, offered}
use Rattle.reliable_send.specs.declared.side.TextFull.{TextFull as TextFullEnd}
use Rattle.reliable_send.specs.Sides.{Stands}
use Rattle.vpn_base.specs.Answers.{IfWhy}
use Rattle.vpn_base.specs.declared.errors.Or.{Or}
use Rattle.control_link.specs.Links.{KeptLink, Link, LinkStands}
use Rattle.control_link.specs.declared.link.LinkEnd.TheVariants.{TextFull}
use Rattle.control_link.specs.Calls.{Left, Outcome, with_ready}
use Rattle.control_link.proofs.Leaving.{left_alone, left_from, said_full, said_goes, sides_of, with_sending}
use Rattle.control_link.proofs.link.ControlLink.say.Goals as goal

pub returns-in-Err-Memory-clause-left : goal.returns-in-Err-Memory-clause-left
returns-in-Err-Memory-clause-left g c = λ l h stands seals.
    let before = subst (λ (k : KeptLink). LinkStands k l) (sym c.self.view_is) stands in
    let after = with_sending _ l c.offer.new.self l.sending before (c.in-Err-Memory.ensures.unchanged l.sending (sides_of _ l before).sending) in
    left_alone g.W.Wrap.wrapped _ c.args.env.now c.args.out.now c.reserve.new.self c.args.to l h _ after seals c.reserve.ensures.same

pub returns-in-Err-Why-clause-left : goal.returns-in-Err-Why-clause-left
returns-in-Err-Why-clause-left g c = λ l h stands seals.
    let before = subst (λ (k : KeptLink). LinkStands k l) (sym c.self.view_is) stands in
    let full = (subst (λ (e : Or TextFullEnd). IfWhy e (λ (_ : TextFullEnd). (s : Sending) → Stands c.self.inside.sending s → is_full s c.args.bytes.now ≡ true)) c.in-Err-Why.field-0-is c.in-Err-Why.ensures.full) l.sending (sides_of _ l before).sending in
    let after = with_sending _ l c.offer.new.self l.sending before (c.in-Err-Why.ensures.unchanged l.sending (sides_of _ l before).sending) in
    subst (λ (o : Outcome). Left g.W.Wrap.wrapped (record { conn = c.self.inside.conn; kid = c.self.inside.kid; first = c.self.inside.first; sending = c.offer.new.self; receiving = c.self.inside.receiving; spent = c.self.inside.spent }) c.args.env.now c.args.out.now c.reserve.new.self c.args.to o) (sym (said_full l h c.args.bytes.now c.args.remote c.args.now.0 full))
    (left_alone g.W.Wrap.wrapped (record { conn = c.self.inside.conn; kid = c.self.inside.kid; first = c.self.inside.first; sending = c.offer.new.self; receiving = c.self.inside.receiving; spent = c.self.inside.spent }) c.args.env.now c.args.out.now c.reserve.new.self c.args.to l h (Some TextFull) after seals c.reserve.ensures.same)

pub returns-in-Err-Why-clause-answer : goal.returns-in-Err-Why-clause-answer
returns-in-Err-Why-clause-answer g c = λ l h stands seals.
    let sides = sides_of _ l (subst (λ (k : KeptLink). LinkStands k l) (sym c.self.view_is) stands) in
    let full = (subst (λ (e : Or TextFullEnd). IfWhy e (λ (_ : TextFullEnd). (s : Sending) → Stands c.self.inside.sending s → is_full s c.args.bytes.now ≡ true)) c.in-Err-Why.field-0-is c.in-Err-Why.ensures.full) l.sending sides.sending in
    ap (λ (o : Outcome). o.end) (said_full l h c.args.bytes.now c.args.remote c.args.now.0 full)

pub returns-in-Ok-send_all-clause-left : goal.returns-in-Ok-send_all-clause-left
returns-in-Ok-send_all-clause-left g c = λ l h stands seals.
    let before = subst (λ (k : KeptLink). LinkStands k l) (sym c.self.view_is) stands in
    let l1 : Link = record l { sending = offered l.sending c.args.bytes.now } in
    let offer = c.in-Ok-offer.ensures.ok l.sending (sides_of _ l before).sending in
    subst (λ (o : Outcome). Left g.W.Wrap.wrapped c.send_all.new.self c.send_all.new.env c.args.out.now c.send_all.new.out c.args.to o) (sym (said_goes l h c.args.bytes.now c.args.remote c.args.now.0 offer.0))
    (left_from g.W.Wrap.wrapped c.send_all.new.self c.send_all.new.env c.args.out.now c.reserve.new.self c.send_all.new.out c.args.to (with_ready l1 h [] c.args.remote c.args.now.0) c.reserve.ensures.same
    (c.in-Ok-send_all.ensures.left l1 h (with_sending _ l c.offer.new.self l1.sending before offer.1) seals))

pub returns-in-Ok-send_all-clause-answer : goal.returns-in-Ok-send_all-clause-answer
returns-in-Ok-send_all-clause-answer g c = λ l h stands seals.
    let before = subst (λ (k : KeptLink). LinkStands k l) (sym c.self.view_is) stands in
    let l1 : Link = record l { sending = offered l.sending c.args.bytes.now } in
    let offer = c.in-Ok-offer.ensures.ok l.sending (sides_of _ l before).sending in
    ap (λ (o : Outcome). o.end) (said_goes l h c.args.bytes.now c.args.remote c.args.now.0 offer.0)
    ∙ c.in-Ok-send_all.ensures.answer l1 h (with_sending _ l c.offer.new.self l1.sending before offer.1) seals

pub returns-in-Err-send_all-clause-left : goal.returns-in-Err-send_all-clause-left
returns-in-Err-send_all-clause-left g c = λ l h stands seals.
    let before = subst (λ (k : KeptLink). LinkStands k l) (sym c.self.view_is) stands in
    let l1 : Link = record l { sending = offered l.sending c.args.bytes.now } in
    let offer = c.in-Ok-offer.ensures.ok l.sending (sides_of _ l before).sending in
    subst (λ (o : Outcome). Left g.W.Wrap.wrapped c.send_all.new.self c.send_all.new.env c.args.out.now c.send_all.new.out c.args.to o) (sym (said_goes l h c.args.bytes.now c.args.remote c.args.now.0 offer.0))
    (left_from g.W.Wrap.wrapped c.send_all.new.self c.send_all.new.env c.args.out.now c.reserve.new.self c.send_all.new.out c.args.to (with_ready l1 h [] c.args.remote c.args.now.0) c.reserve.ensures.same
    (c.in-Err-send_all.ensures.left l1 h (with_sending _ l c.offer.new.self l1.sending before offer.1) seals))

pub returns-in-Err-send_all-clause-answer : goal.returns-in-Err-send_all-clause-answer
returns-in-Err-send_all-clause-answer g c = λ l h stands seals.
    let before = subst (λ (k : KeptLink). LinkStands k l) (sym c.self.view_is) stands in
    let l1 : Link = record l { sending = offered l.sending c.args.bytes.now } in
    let offer = c.in-Ok-offer.ensures.ok l.sending (sides_of _ l before).sending in
    ap (λ (o : Outcome). o.end) (said_goes l h c.args.bytes.now c.args.remote c.args.now.0 offer.0)
    ∙ c.in-Err-send_all.ensures.answer l1 h (with_sending _ l c.offer.new.self l1.sending before offer.1) seals
