-- What a data packet opens to, with no way back from a cipher text: a search for what seals to it.
use Rattle.std.specs.Prelude.{ℕ, ◌-◌, List, length, Option, Some, None, Result, Ok, Err, option_map}
use Rattle.std.specs.Str.{bytes_eq}
use Rattle.gcm_seal.specs.declared.aead.NotSealed.{NotSealed}
use Rattle.byte_texts.specs.Texts.{text_with}
use Rattle.sealed_packet.specs.SealedPacket.{Sealing, packet, peer_in, id_in}

-- the packet id that stands in the datagram, and the one inner packet whose data packet under this key id, and
-- under the peer id and the packet id that stand in the datagram, is the datagram; none where there is none
unfoldable pub opening : Sealing → List ℕ → ℕ → List ℕ → Option (ℕ × List ℕ)
opening sealed implicit kid datagram =
    option_map (λ (inner : List ℕ). (id_in datagram, inner))
    (text_with (λ inner. bytes_eq (packet sealed implicit kid (peer_in datagram) (id_in datagram) inner) datagram) (length datagram - 24))

-- what an opening in place found, by its answer and by the bytes that it leaves from 24 on
abbrev pub opened : Result ℕ NotSealed → List ℕ → Option (ℕ × List ℕ)
opened (Ok id) inner = Some (id, inner)
opened (Err e) inner = None
