use Rattle.std.proofs.Common.{◌≡◌, Option, Result, OnOk, OnErr, IfOk, IsOk, ap, sym, subst, ◌∙◌, refl, arith}
use Rattle.std.specs.Prelude.{is_some}
use Rattle.vpn_base.specs.declared.errors.NoMemory.{NoMemory}
use Rattle.opcode_codec.specs.ControlText.{control_form}
use Rattle.control_link.specs.declared.link.LinkEnd.{LinkEnd}
use Rattle.peer_lines.specs.Calls.{packet_taken}
use Rattle.session_control.specs.internal.Taking.{LineKept, LineLeft}
use Rattle.session_state.proofs.Keeping.{not_there}
use Rattle.session_control.proofs.Taking.{line_kept, line_left, told_end, told_ok}
use Rattle.session_control.proofs.control.take_at.Goals as goal

pub returns-in-None-clause-taken : goal.returns-in-None-clause-taken
returns-in-None-clause-taken g c = λ ss s h stands at is_open spent env.
    absurd (not_there ss c.args.number s (ap is_some (sym c.in-None.is) ∙ c.take_text.ensures.some ss stands) at is_open)

pub returns-in-None-clause-end : goal.returns-in-None-clause-end
returns-in-None-clause-end g c = λ ss s h stands at is_open spent env.
    absurd (not_there ss c.args.number s (ap is_some (sym c.in-None.is) ∙ c.take_text.ensures.some ss stands) at is_open)

pub returns-in-Some-clause-taken : goal.returns-in-Some-clause-taken
unfolding packet_taken
returns-in-Some-clause-taken g c = λ ss s h stands at is_open spent env.
    let o = packet_taken s h (control_form c.args.view.now) c.args.remote c.args.now.0 in
    subst (λ (r : Result (Option LinkEnd) NoMemory). OnOk r (LineLeft g.W.Wrap.wrapped c.put_text.new.self c.on_packet-told.new.env c.args.out.now c.on_packet-told.new.out c.args.to ss c.args.number o))
    (sym c.end_told.ensures)
    (line_left g.W.Wrap.wrapped c.take_text.new.self c.put_text.new.self c.on_packet-told.new.self c.on_packet-told.new.env c.args.out.now c.on_packet-told.new.out c.args.to ss c.args.number s h o
    c.on_packet-told.result (c.take_text.ensures.stands ss stands) at (record { stands = c.put_text.ensures.stands; whole = c.put_text.ensures.whole }) refl refl refl
    (c.on_packet-told.ensures.left s h (c.in-Some.ensures.text ss s stands at) spent env))

pub returns-in-Some-clause-kept : goal.returns-in-Some-clause-kept
returns-in-Some-clause-kept g c = λ ss s h stands at is_open spent env.
    let o = packet_taken s h (control_form c.args.view.now) c.args.remote c.args.now.0 in
    subst (λ (r : Result (Option LinkEnd) NoMemory). OnErr r (LineKept g.W.Wrap.wrapped c.put_text.new.self c.on_packet-told.new.env c.args.out.now c.on_packet-told.new.out ss h))
    (sym c.end_told.ensures)
    (line_kept g.W.Wrap.wrapped c.take_text.new.self c.put_text.new.self c.on_packet-told.new.self c.on_packet-told.new.env c.args.out.now c.on_packet-told.new.out c.args.to ss c.args.number s h o
    c.on_packet-told.result (c.take_text.ensures.stands ss stands) at (record { stands = c.put_text.ensures.stands; whole = c.put_text.ensures.whole })
    (c.on_packet-told.ensures.left s h (c.in-Some.ensures.text ss s stands at) spent env))

pub returns-in-Some-clause-end : goal.returns-in-Some-clause-end
returns-in-Some-clause-end g c = λ ss s h stands at is_open spent env.
    subst (λ (r : Result (Option LinkEnd) NoMemory). IfOk r (λ end. end ≡ (packet_taken s h (control_form c.args.view.now) c.args.remote c.args.now.0).end)) (sym c.end_told.ensures)
    (told_end c.on_packet-told.result _ (c.on_packet-told.ensures.answer s h (c.in-Some.ensures.text ss s stands at) spent env))

pub returns-in-Some-clause-fits : goal.returns-in-Some-clause-fits
returns-in-Some-clause-fits g c = λ payload room texts small short has.
    let text = texts c.args.number c.in-Some.text (sym c.take_text.ensures.taken ∙ c.in-Some.is) in
    subst (λ (r : Result (Option LinkEnd) NoMemory). IsOk r) (sym c.end_told.ensures)
    (told_ok c.on_packet-told.result (c.on_packet-told.ensures.fits room small (omega (arith, text.bytes_fit, short)) has (omega (arith, text.payload_fits, short))))

pub returns-in-Some-clause-uses : goal.returns-in-Some-clause-uses
returns-in-Some-clause-uses g c = λ payload room texts short.
    let text = texts c.args.number c.in-Some.text (sym c.take_text.ensures.taken ∙ c.in-Some.is) in
    let used = c.on_packet-told.ensures.uses in
    record { effects_left = used.effects_left; bytes_left = omega (arith, text.bytes_fit, short, used.bytes_left) }
