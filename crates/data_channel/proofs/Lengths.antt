-- A datagram that opens has at least the 24 bytes of head and tag.
use Rattle.std.proofs.Common.{◌≡◌, ℕ, ◌≤◌, List, length, ap, arith}
use Rattle.std.proofs.lemmas.List.{length-append}
use Rattle.gcm_seal.specs.Sealed.{Sealed}
use Rattle.opcode_codec.specs.DataPacket.{data_head, data_packet}
use Rattle.sealed_packet.specs.SealedPacket.{Opens, Sealing, nonce, packet, peer_in, sealed_inner}

pub opens_long : (sealed : Sealing) (implicit : List ℕ) (kid id : ℕ) (datagram inner : List ℕ) →
    ((nonce aad plain : List ℕ) → (length (sealed nonce aad plain).text ≡ length plain) × (length (sealed nonce aad plain).tag ≡ 16)) →
    Opens sealed implicit kid datagram id inner → 24 ≤ length datagram
unfolding packet data_packet data_head
opens_long sealed implicit kid id datagram inner lengths opens =
    let s : Sealed = sealed_inner sealed implicit kid (peer_in datagram) id inner in
    omega (arith, ap length opens.is_packet, length-append s.tag s.text, (lengths (nonce implicit id) (data_head kid (peer_in datagram) id) inner).1)
