use Rattle.std.proofs.Common.{◌+◌, ◌*◌, length, refl, subst, ◌∙◌, arith}
use Rattle.opcode_codec.specs.ControlText.{control_form}
use Rattle.opcode_codec.specs.declared.opcodes.Opcode.TheVariants.{SoftReset}
use Rattle.reliable_send.specs.Sides.{IsNotMemory}
use Rattle.peer_lines.specs.Calls.{Leaves as LineLeaves, LineOutcome, packet_taken, still}
use Rattle.peer_table.specs.KeySessions.{session_begun}
use Rattle.session_control.proofs.Taking.{not_wanting, only_end}
use Rattle.session_control.proofs.next.begin_text.Goals as goal

pub returns-clause-left : goal.returns-clause-left
returns-clause-left g c = λ timers h blank env.
    let s = session_begun timers c.args.conn c.args.number SoftReset c.args.now.0 in
    let stands = c.begin-text.ensures.stands timers c.args.number c.args.now.0 blank c.kid_of.ensures in
    let is : IsNotMemory c.on_packet-told.result = c.on_packet-told.ensures.fits (7200 + 12 * length c.args.view.now.payload.now) c.requires.bytes
    (omega (arith, c.begin-text.ensures.none_long)) c.requires.room (omega (arith, c.begin-text.ensures.room, c.requires.payload)) in
    subst (λ (o : LineOutcome). LineLeaves g.W.Wrap.wrapped c.on_packet-told.new.self c.on_packet-told.new.env c.args.out.now c.on_packet-told.new.out c.args.to o)
    (not_wanting c.on_packet-told.result (packet_taken s h (control_form c.args.view.now) c.args.remote c.args.now.0) (still s h) is)
    (c.on_packet-told.ensures.left s h stands refl env)

pub returns-clause-end : goal.returns-clause-end
returns-clause-end g c = λ timers h blank env.
    let s = session_begun timers c.args.conn c.args.number SoftReset c.args.now.0 in
    let stands = c.begin-text.ensures.stands timers c.args.number c.args.now.0 blank c.kid_of.ensures in
    let is : IsNotMemory c.on_packet-told.result = c.on_packet-told.ensures.fits (7200 + 12 * length c.args.view.now.payload.now) c.requires.bytes
    (omega (arith, c.begin-text.ensures.none_long)) c.requires.room (omega (arith, c.begin-text.ensures.room, c.requires.payload)) in
    c.end_only.ensures ∙ only_end c.on_packet-told.result _ is (c.on_packet-told.ensures.answer s h stands refl env)
