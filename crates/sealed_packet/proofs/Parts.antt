-- The parts of a data packet are read back from it.
use Rattle.std.proofs.Common.{◌≡◌, ℕ, ◌^◌, ◌<◌, ◌≤◌, List, ◌∷◌, length, take, drop, subst, ap, ◌∙◌, sym, refl, arith}
use Rattle.std.specs.Int.{w32, from_be_bytes}
use Rattle.std.proofs.lemmas.List.{take_at, drop_at, length-append}
use Rattle.std.proofs.lemmas.Nat.{from_be_bytes-to_be_bytes_4}
use Rattle.opcode_codec.specs.DataPacket.{DataForm, IsData, data_head, data_packet, three_bytes}
use Rattle.sealed_packet.specs.SealedPacket.{id_in, peer_in}

-- what the reading of a packet rests on
pub record IsReadable (f : DataForm) : Type 0 where
  pub peer : f.peer < 2 ^ 24
  pub id : f.id < 2 ^ 32
  pub tag : length f.tag ≡ 16

-- what has a spelling is readable
pub readable : (f : DataForm) → IsData f → IsReadable f
readable f fits = record { peer = fits.peer; id = fits.id; tag = fits.tag }

-- a peer id of 24 bits is read from its three bytes
peer_again : (peer : ℕ) → peer < 2 ^ 24 → from_be_bytes w32 (0 ∷ three_bytes peer) ≡ peer
peer_again peer small = omega arith

-- the peer id stands in its place
pub peer_read : (f : DataForm) → IsReadable f → peer_in (data_packet f) ≡ f.peer
unfolding data_packet data_head
peer_read f fits = peer_again f.peer fits.peer

-- the packet id
pub id_read : (f : DataForm) → IsReadable f → id_in (data_packet f) ≡ f.id
unfolding data_packet data_head
id_read f fits = from_be_bytes-to_be_bytes_4 f.id fits.id

-- the tag
pub tag_read : (f : DataForm) → IsReadable f → take 16 (drop 8 (data_packet f)) ≡ f.tag
unfolding data_packet data_head
tag_read f fits = take_at f.tag f.sealed 16 fits.tag

-- the cipher text
pub text_read : (f : DataForm) → IsReadable f → drop 24 (data_packet f) ≡ f.sealed
unfolding data_packet data_head
text_read f fits = drop_at f.tag f.sealed 16 fits.tag

-- a packet has 24 bytes and the sealed ones
pub length_read : (f : DataForm) (datagram : List ℕ) → IsReadable f → datagram ≡ data_packet f → 24 ≤ length datagram
unfolding data_packet data_head
length_read f datagram fits is = omega (arith, ap length is, length-append f.tag f.sealed, fits.tag)

-- a form with the same key id and the same cipher text is the same
same_form : (f : DataForm) (kid : ℕ) (text : List ℕ) → f.kid ≡ kid → f.sealed ≡ text →
    f ≡ record { kid = kid; peer = f.peer; id = f.id; tag = f.tag; sealed = text }
same_form f kid text is_kid is_text = rw (← is_kid, ← is_text) refl

-- a packet's form is its head and the bytes from 24 on
pub with_text : (f : DataForm) (kid : ℕ) (datagram : List ℕ) → IsData f → datagram ≡ data_packet f → f.kid ≡ kid →
    IsData (record { kid = kid; peer = f.peer; id = f.id; tag = f.tag; sealed = drop 24 datagram })
    × (datagram ≡ data_packet (record { kid = kid; peer = f.peer; id = f.id; tag = f.tag; sealed = drop 24 datagram }))
with_text f kid datagram fits is is_kid =
    let text : drop 24 datagram ≡ f.sealed = ap (drop 24) is ∙ text_read f (readable f fits) in
    subst (λ (g : DataForm). IsData g × (datagram ≡ data_packet g)) (same_form f kid (drop 24 datagram) is_kid (sym text)) (fits, is)
