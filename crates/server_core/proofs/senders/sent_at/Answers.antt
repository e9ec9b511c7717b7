use Rattle.std.proofs.Common.{sym, ap, subst, ◌∙◌}
use Rattle.client_table.specs.declared.key.Key.{Key}
use Rattle.client_table.specs.Tables.{entries_of}
use Rattle.opcode_codec.specs.Packet.{packet_form}
use Rattle.peer_table.specs.Naming.{place}
use Rattle.server_table.specs.Senders as senders
use Rattle.server_core.proofs.Sent.{entry_is}
use Rattle.server_core.proofs.senders.sent_at.Goals as goal

pub returns : goal.returns
returns g c e p there stands =
    let means = g.S.ClientSession.stands in
    let packet = packet_form c.args.packet.now in
    let key = c.key_at-key.result.now in
    let value = c.look_at.result.now in
    let is = entry_is (entries_of c.args.core.now.clients) c.args.i e key value there c.key_at-key.ensures c.look_at.ensures in
    c.sent_here.ensures
    ∙ ap (λ at. senders.sent_here c.args.to packet key.address key.peer_id at)
    (c.place-at.ensures p (subst (λ v. means v.session p) (sym is.1) stands) ∙ ap (λ kid. place kid p) c.kid_in.ensures)
    ∙ ap (λ (k : Key). senders.sent_here c.args.to packet k.address k.peer_id (place (senders.kid_in packet) p)) is.0
