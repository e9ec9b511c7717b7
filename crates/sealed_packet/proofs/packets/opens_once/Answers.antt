use Rattle.sealed_packet.proofs.Laws.{one_opens}
use Rattle.sealed_packet.proofs.packets.opens_once.Goals as goal

pub returns : goal.returns
returns g c = λ implicit kid datagram i j p q.
    one_opens (g.C.Aead.sealed c.args.cipher.now) implicit kid datagram i j p q
    (g.met.C.Aead.lengths c.args.cipher.now) (g.met.C.Aead.one_plain c.args.cipher.now)
