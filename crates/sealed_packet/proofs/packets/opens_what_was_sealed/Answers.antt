use Rattle.sealed_packet.proofs.Laws.{sealed_opens, sealed_peer}
use Rattle.sealed_packet.proofs.packets.opens_what_was_sealed.Goals as goal

pub returns : goal.returns
returns g c = λ implicit kid peer id inner peer_fits id_fits.
    let sealed = g.C.Aead.sealed c.args.cipher.now in
    let lengths = g.met.C.Aead.lengths c.args.cipher.now in
    (sealed_opens sealed implicit kid peer id inner lengths peer_fits id_fits, sealed_peer sealed implicit kid peer id inner lengths peer_fits id_fits)
