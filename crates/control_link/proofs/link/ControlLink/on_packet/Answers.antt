use Rattle.std.proofs.Common.{ap, arith, subst, sym, ◌∙◌}
use Rattle.vpn_base.specs.declared.names.Sid.{Sid}
use Rattle.vpn_base.specs.Acks.{acked}
use Rattle.opcode_codec.specs.ControlText.{control_form}
use Rattle.reliable_send.specs.Sides.{Stands}
use Rattle.control_link.specs.Envelope.{EnvelopeHistory, EnvelopeStands}
use Rattle.control_link.specs.Links.{KeptLink, Link, LinkStands}
use Rattle.control_link.specs.Calls.{Left, Outcome, all_acked, counted_ids, put_if, started_by, with_ready}
use Rattle.control_link.proofs.Leaving.{left_from, put_link, put_stands, received_goes, sides_of}
use Rattle.control_link.proofs.link.ControlLink.on_packet.Goals as goal
use Rattle.control_link.proofs.link.ControlLink.on_packet.Goals.{In-Ok-send_all, In-Err-send_all}

-- the link stands for the one with the packet before everything is sent
stands_ok : (g : _) (c : In-Ok-send_all g) (l : Link) (h : EnvelopeHistory) → LinkStands c.args.self.now l → EnvelopeStands g.W.Wrap.wrapped c.args.env.now h →
    LinkStands (record { conn = c.self.inside.conn; kid = c.self.inside.kid; first = c.self.inside.first; sending = c.start_if_first.new.side; receiving = c.take_acks-acks.new.self; spent = c.self.inside.spent }) (put_link l h.own (control_form c.args.v.now))
stands_ok g c l h stands seals =
    let before = subst (λ (k : KeptLink). LinkStands k l) (sym c.self.view_is) stands in
    let sides = sides_of _ l before in
    let v = c.args.v.now in
    put_stands _ l h.own (control_form v) c.start_if_first.new.side c.take_acks-acks.new.self before
    (subst (λ (own : Sid). Stands c.start_if_first.new.side (started_by v.id (all_acked (counted_ids own v.remote (acked v.acks)) l.sending))) (c.own.ensures h seals) (c.start_if_first.ensures.stands _ (c.count_acks.ensures.stands l.sending sides.sending)))
    (c.take_acks-acks.ensures.stands (put_if l.receiving v.id v.payload.now) (c.in-Ok-put_packet.ensures.ok l.receiving sides.receiving))

pub returns-in-Ok-send_all-clause-left : goal.returns-in-Ok-send_all-clause-left
returns-in-Ok-send_all-clause-left g c = λ l h stands seals.
    let v = c.args.v.now in
    let sides = sides_of _ l (subst (λ (k : KeptLink). LinkStands k l) (sym c.self.view_is) stands) in
    let ids = c.take_acks-acks.ensures.exact (put_if l.receiving v.id v.payload.now) (c.in-Ok-put_packet.ensures.ok l.receiving sides.receiving) in
    subst (λ (o : Outcome). Left g.W.Wrap.wrapped c.send_all.new.self c.send_all.new.env c.args.out.now c.send_all.new.out c.args.to o) (received_goes l h (control_form v) c.args.remote c.args.now.0 (acked c.take_acks-acks.result) ids)
    (left_from g.W.Wrap.wrapped c.send_all.new.self c.send_all.new.env c.args.out.now c.reserve.new.self c.send_all.new.out c.args.to (with_ready (put_link l h.own (control_form v)) h (acked c.take_acks-acks.result) c.args.remote c.args.now.0) c.reserve.ensures.same
    (c.in-Ok-send_all.ensures.left (put_link l h.own (control_form v)) h (stands_ok g c l h stands seals) seals))

pub returns-in-Ok-send_all-clause-answer : goal.returns-in-Ok-send_all-clause-answer
returns-in-Ok-send_all-clause-answer g c = λ l h stands seals.
    let v = c.args.v.now in
    let sides = sides_of _ l (subst (λ (k : KeptLink). LinkStands k l) (sym c.self.view_is) stands) in
    let ids = c.take_acks-acks.ensures.exact (put_if l.receiving v.id v.payload.now) (c.in-Ok-put_packet.ensures.ok l.receiving sides.receiving) in (
      c.in-Ok-put_packet.ensures.got l.receiving sides.receiving,
      sym (ap (λ (o : Outcome). o.end) (received_goes l h (control_form v) c.args.remote c.args.now.0 (acked c.take_acks-acks.result) ids))
          ∙ c.in-Ok-send_all.ensures.answer (put_link l h.own (control_form v)) h (stands_ok g c l h stands seals) seals,
    )

pub returns-in-Ok-send_all-clause-spare_text : goal.returns-in-Ok-send_all-clause-spare_text
returns-in-Ok-send_all-clause-spare_text g c =
    omega (arith, ap (λ (k : KeptLink). k.sending.spare) c.self.view_is, c.count_acks.ensures.spare, c.start_if_first.ensures.spare, c.in-Ok-send_all.ensures.spare.1)

-- the link stands for the one with the packet before everything is sent
stands_err : (g : _) (c : In-Err-send_all g) (l : Link) (h : EnvelopeHistory) → LinkStands c.args.self.now l → EnvelopeStands g.W.Wrap.wrapped c.args.env.now h →
    LinkStands (record { conn = c.self.inside.conn; kid = c.self.inside.kid; first = c.self.inside.first; sending = c.start_if_first.new.side; receiving = c.take_acks-acks.new.self; spent = c.self.inside.spent }) (put_link l h.own (control_form c.args.v.now))
stands_err g c l h stands seals =
    let before = subst (λ (k : KeptLink). LinkStands k l) (sym c.self.view_is) stands in
    let sides = sides_of _ l before in
    let v = c.args.v.now in
    put_stands _ l h.own (control_form v) c.start_if_first.new.side c.take_acks-acks.new.self before
    (subst (λ (own : Sid). Stands c.start_if_first.new.side (started_by v.id (all_acked (counted_ids own v.remote (acked v.acks)) l.sending))) (c.own.ensures h seals) (c.start_if_first.ensures.stands _ (c.count_acks.ensures.stands l.sending sides.sending)))
    (c.take_acks-acks.ensures.stands (put_if l.receiving v.id v.payload.now) (c.in-Ok-put_packet.ensures.ok l.receiving sides.receiving))

pub returns-in-Err-send_all-clause-left : goal.returns-in-Err-send_all-clause-left
returns-in-Err-send_all-clause-left g c = λ l h stands seals.
    let v = c.args.v.now in
    let sides = sides_of _ l (subst (λ (k : KeptLink). LinkStands k l) (sym c.self.view_is) stands) in
    let ids = c.take_acks-acks.ensures.exact (put_if l.receiving v.id v.payload.now) (c.in-Ok-put_packet.ensures.ok l.receiving sides.receiving) in
    subst (λ (o : Outcome). Left g.W.Wrap.wrapped c.send_all.new.self c.send_all.new.env c.args.out.now c.send_all.new.out c.args.to o) (received_goes l h (control_form v) c.args.remote c.args.now.0 (acked c.take_acks-acks.result) ids)
    (left_from g.W.Wrap.wrapped c.send_all.new.self c.send_all.new.env c.args.out.now c.reserve.new.self c.send_all.new.out c.args.to (with_ready (put_link l h.own (control_form v)) h (acked c.take_acks-acks.result) c.args.remote c.args.now.0) c.reserve.ensures.same
    (c.in-Err-send_all.ensures.left (put_link l h.own (control_form v)) h (stands_err g c l h stands seals) seals))

pub returns-in-Err-send_all-clause-answer : goal.returns-in-Err-send_all-clause-answer
returns-in-Err-send_all-clause-answer g c = λ l h stands seals.
    let v = c.args.v.now in
    let sides = sides_of _ l (subst (λ (k : KeptLink). LinkStands k l) (sym c.self.view_is) stands) in
    let ids = c.take_acks-acks.ensures.exact (put_if l.receiving v.id v.payload.now) (c.in-Ok-put_packet.ensures.ok l.receiving sides.receiving) in
    sym (ap (λ (o : Outcome). o.end) (received_goes l h (control_form v) c.args.remote c.args.now.0 (acked c.take_acks-acks.result) ids))
    ∙ c.in-Err-send_all.ensures.answer (put_link l h.own (control_form v)) h (stands_err g c l h stands seals) seals

pub returns-in-Err-send_all-clause-spare_text : goal.returns-in-Err-send_all-clause-spare_text
returns-in-Err-send_all-clause-spare_text g c =
    omega (arith, ap (λ (k : KeptLink). k.sending.spare) c.self.view_is, c.count_acks.ensures.spare, c.start_if_first.ensures.spare, c.in-Err-send_all.ensures.spare.1)
