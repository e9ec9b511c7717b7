-- What holds of packets under any sealing: what was sealed opens, and at most one inner packet does.
use Rattle.std.proofs.Common.{◌≡◌, ℕ, ◌^◌, ◌<◌, List, length, take, drop, subst, sym, ap, ◌∙◌}
use Rattle.opcode_codec.specs.DataPacket.{DataForm, data_head, data_packet}
use Rattle.sealed_packet.specs.SealedPacket.{Opens, Sealing, form, id_in, nonce, packet, peer_in, sealed_inner}
use Rattle.sealed_packet.proofs.Parts.{IsReadable, peer_read, id_read, tag_read, text_read}

-- a sealing's tag has 16 bytes
abbrev pub Lengths : Sealing → Type 0
Lengths sealed = (n aad plain : List ℕ) → (length (sealed n aad plain).text ≡ length plain) × (length (sealed n aad plain).tag ≡ 16)

-- no two plain texts seal to one cipher text and tag
abbrev pub OnePlain : Sealing → Type 0
OnePlain sealed = (n aad a b : List ℕ) → sealed n aad a ≡ sealed n aad b → a ≡ b

-- the form of what opens
abbrev pub form_opened : Sealing → List ℕ → ℕ → List ℕ → ℕ → List ℕ → DataForm
form_opened sealed implicit kid datagram id inner =
    form kid (peer_in datagram) id (sealed_inner sealed implicit kid (peer_in datagram) id inner)

-- what opens is the packet of that form
pub is_form_opened : (sealed : Sealing) (implicit : List ℕ) (kid id : ℕ) (datagram inner : List ℕ) → Opens sealed implicit kid datagram id inner →
    datagram ≡ data_packet (form_opened sealed implicit kid datagram id inner)
unfolding packet
is_form_opened sealed implicit kid id datagram inner opens = opens.is_packet

-- and that form is read back
pub readable_opened : (sealed : Sealing) (implicit : List ℕ) (kid id : ℕ) (datagram inner : List ℕ) → Lengths sealed →
    Opens sealed implicit kid datagram id inner → IsReadable (form_opened sealed implicit kid datagram id inner)
readable_opened sealed implicit kid id datagram inner lengths opens = record {
  peer = opens.peer_fits;
  id = opens.id_fits;
  tag = (lengths (nonce implicit id) (data_head kid (peer_in datagram) id) inner).1;
}

-- a datagram that opens does so under the fields that stand in it
pub only_authentic : (sealed : Sealing) (implicit : List ℕ) (f : DataForm) (datagram inner : List ℕ) (id : ℕ) → Lengths sealed → IsReadable f →
    datagram ≡ data_packet f → Opens sealed implicit f.kid datagram id inner →
    (id ≡ f.id) × (sealed (nonce implicit f.id) (data_head f.kid f.peer f.id) inner ≡ record { text = f.sealed; tag = f.tag })
only_authentic sealed implicit f datagram inner id lengths fits is opens =
    let g = form_opened sealed implicit f.kid datagram id inner in
    let is_g = is_form_opened sealed implicit f.kid id datagram inner opens in
    let fits_g = readable_opened sealed implicit f.kid id datagram inner lengths opens in
    let peer : f.peer ≡ peer_in datagram = sym (peer_read f fits) ∙ sym (ap peer_in is) in
    let same_id : f.id ≡ id = sym (id_read f fits) ∙ sym (ap id_in is) ∙ ap id_in is_g ∙ id_read g fits_g in
    let tag : g.tag ≡ f.tag =
    sym (tag_read g fits_g) ∙ ap (λ (d : List ℕ). take 16 (drop 8 d)) (sym is_g ∙ is) ∙ tag_read f fits in
    let text : g.sealed ≡ f.sealed = sym (text_read g fits_g) ∙ ap (drop 24) (sym is_g ∙ is) ∙ text_read f fits in (
      sym same_id,
      ap (λ (i : ℕ). sealed (nonce implicit i) (data_head f.kid f.peer i) inner) same_id
          ∙ ap (λ (p : ℕ). sealed (nonce implicit id) (data_head f.kid p id) inner) peer
          ∙ ap (λ (t : List ℕ). record { text = t; tag = g.tag }) text
          ∙ ap (λ (t : List ℕ). record { text = f.sealed; tag = t }) tag,
    )

-- at most one inner packet opens
pub one_opens : (sealed : Sealing) (implicit : List ℕ) (kid : ℕ) (datagram : List ℕ) (i j : ℕ) (p q : List ℕ) → Lengths sealed →
    OnePlain sealed →
    Opens sealed implicit kid datagram i p → Opens sealed implicit kid datagram j q → (i ≡ j) × (p ≡ q)
one_opens sealed implicit kid datagram i j p q lengths one_plain first second =
    let f = form_opened sealed implicit kid datagram j q in
    let fits = readable_opened sealed implicit kid j datagram q lengths second in
    let is = is_form_opened sealed implicit kid j datagram q second in
    let same = only_authentic sealed implicit f datagram p i lengths fits is first in
    (same.0, one_plain (nonce implicit j) (data_head kid (peer_in datagram) j) p q same.1)

-- what was sealed has its peer id
pub sealed_peer : (sealed : Sealing) (implicit : List ℕ) (kid peer id : ℕ) (inner : List ℕ) → Lengths sealed → peer < 2 ^ 24 → id < 2 ^ 32 →
    peer_in (packet sealed implicit kid peer id inner) ≡ peer
unfolding packet
sealed_peer sealed implicit kid peer id inner lengths peer_fits id_fits =
    peer_read (form kid peer id (sealed_inner sealed implicit kid peer id inner))
    (record { peer = peer_fits; id = id_fits; tag = (lengths (nonce implicit id) (data_head kid peer id) inner).1 })

-- what was sealed opens
pub sealed_opens : (sealed : Sealing) (implicit : List ℕ) (kid peer id : ℕ) (inner : List ℕ) → Lengths sealed → peer < 2 ^ 24 → id < 2 ^ 32 →
    Opens sealed implicit kid (packet sealed implicit kid peer id inner) id inner
sealed_opens sealed implicit kid peer id inner lengths peer_fits id_fits =
    let same = sym (sealed_peer sealed implicit kid peer id inner lengths peer_fits id_fits) in
    record {
      peer_fits = subst (λ (p : ℕ). p < 2 ^ 24) same peer_fits;
      id_fits = id_fits;
      is_packet = ap (λ (p : ℕ). packet sealed implicit kid p id inner) same;
    }
