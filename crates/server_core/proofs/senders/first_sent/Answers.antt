use Rattle.std.proofs.Common.{◌≡◌, length, sym, subst, ◌∙◌, arith}
use Rattle.client_table.specs.Tables.{entries_of}
use Rattle.opcode_codec.specs.Packet.{packet_form}
use Rattle.server_core.proofs.Sent.{NoneSent, entry_there, found, none_found, one_more}
use Rattle.server_core.proofs.senders.first_sent.Goals as goal

pub loop-i-preserved : goal.loop-i-preserved
loop-i-preserved g c =
    let means = g.S.ClientSession.stands in
    let es = entries_of c.args.core.now.clients in
    let packet = packet_form c.args.packet.now in (
      omega (arith, c.loop-i-test.true),
      c.loop-i.invariant.1,
      one_more means c.args.to packet c.loop-i.i es c.loop-i.invariant.2 (λ e p there stands. sym (c.sent_at.ensures e p there stands) ∙ c.in_default.is),
    )

pub returns-in-Some : goal.returns-in-Some
returns-in-Some g c t h =
    let means = g.S.ClientSession.stands in
    let es = entries_of c.args.core.now.clients in
    let packet = packet_form c.args.packet.now in
    let e = entry_there es c.loop-i.i (omega (arith, c.loop-i-test.true, c.loop-i.invariant.1)) in
    sym (found means c.args.to packet e.entry c.in-Some.at t.clients es 0 c.loop-i.i h.clients c.loop-i.invariant.2 e.there
    (λ p stands. sym (c.sent_at.ensures e.entry p e.there stands) ∙ c.in-Some.is))

pub returns : goal.returns
returns g c t h =
    let means = g.S.ClientSession.stands in
    let es = entries_of c.args.core.now.clients in
    let packet = packet_form c.args.packet.now in
    let all : c.loop-i.i ≡ length es = omega (arith, c.loop-i-test.false, c.loop-i.invariant.0, c.loop-i.invariant.1) in
    sym (none_found means c.args.to packet t.clients es 0 h.clients (subst (λ n. NoneSent means c.args.to packet n es) all c.loop-i.invariant.2))
