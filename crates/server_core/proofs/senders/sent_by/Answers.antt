use Rattle.std.proofs.Common.{Ok, sym, ap, ◌∙◌}
use Rattle.opcode_codec.specs.Packet.{packet_form, seen}
use Rattle.server_core.proofs.Sent.{by_packet}
use Rattle.server_core.proofs.senders.sent_by.Goals as goal

pub returns-in-Err : goal.returns-in-Err
returns-in-Err g c t h = by_packet t c.args.to c.args.datagram.now _ (ap seen (sym c.in-Err.is) ∙ c.read_packet.ensures.exact)

pub returns-in-Ok : goal.returns-in-Ok
returns-in-Ok g c t h =
    c.first_sent.ensures t h ∙ by_packet t c.args.to c.args.datagram.now (Ok (packet_form c.in-Ok.packet)) (ap seen (sym c.in-Ok.is) ∙ c.read_packet.ensures.exact)
