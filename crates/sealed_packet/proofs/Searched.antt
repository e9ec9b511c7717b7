-- What the search finds is what opens.
use Rattle.std.proofs.Common.{◌≡◌, ℕ, ◌+◌, ◌-◌, ◌^◌, ◌<◌, Bool, true, List, length, drop, Option, Some, None, refl, sym, ap, subst, ◌∙◌, arith}
use Rattle.std.specs.Prelude.{option_map}
use Rattle.std.specs.Str.{bytes_eq}
use Rattle.std.proofs.lemmas.List.{length-append}
use Rattle.std.proofs.lemmas.Slice.Eq.{bytes_eq-Decides}
use Rattle.byte_texts.specs.Texts.{IsBytes, text_with}
use Rattle.byte_texts.proofs.Parts.{IsBytes-drop, IsBytes-take}
use Rattle.byte_texts.proofs.Searching.{found_text, one_found}
use Rattle.opcode_codec.specs.DataPacket.{data_head, data_packet}
use Rattle.sealed_packet.specs.SealedPacket.{Opens, Sealing, id_in, nonce, packet, peer_in, sealed_inner}
use Rattle.sealed_packet.specs.Opening.{opening}
use Rattle.sealed_packet.proofs.Parts.{id_read}
use Rattle.sealed_packet.proofs.Laws.{Lengths, OnePlain, form_opened, is_form_opened, one_opens, readable_opened}

-- a packet has 24 bytes more than its inner packet
length_packet : (sealed : Sealing) (implicit : List ℕ) (kid peer id : ℕ) (inner : List ℕ) → Lengths sealed → length (packet sealed implicit kid peer id inner) ≡ 24 + length inner
unfolding packet data_packet data_head
length_packet sealed implicit kid peer id inner lengths =
    let s = sealed_inner sealed implicit kid peer id inner in
    let sizes = lengths (nonce implicit id) (data_head kid peer id) inner in
    omega (arith, length-append s.tag s.text, sizes.0, sizes.1)

-- what opens has the packet id that stands in the datagram
id_opened : (sealed : Sealing) (implicit : List ℕ) (kid id : ℕ) (datagram inner : List ℕ) → Lengths sealed → Opens sealed implicit kid datagram id inner → id_in datagram ≡ id
id_opened sealed implicit kid id datagram inner lengths opens =
    ap id_in (is_form_opened sealed implicit kid id datagram inner opens)
    ∙ id_read (form_opened sealed implicit kid datagram id inner) (readable_opened sealed implicit kid id datagram inner lengths opens)

-- and is 24 bytes shorter
length_opened : (sealed : Sealing) (implicit : List ℕ) (kid id : ℕ) (datagram inner : List ℕ) → Lengths sealed → Opens sealed implicit kid datagram id inner →
    length inner ≡ length datagram - 24
length_opened sealed implicit kid id datagram inner lengths opens =
    omega (arith, ap length opens.is_packet, length_packet sealed implicit kid (peer_in datagram) id inner lengths)

-- the ids in a datagram of bytes have three and four of them
peer_small : (datagram : List ℕ) → IsBytes datagram → peer_in datagram < 2 ^ 24
peer_small datagram small =
    let part = IsBytes-take 3 (drop 1 datagram) (IsBytes-drop 1 datagram small) in omega (arith, part 0, part 1, part 2)

id_small : (datagram : List ℕ) → IsBytes datagram → id_in datagram < 2 ^ 32
id_small datagram small =
    let part = IsBytes-take 4 (drop 4 datagram) (IsBytes-drop 4 datagram small) in omega (arith, part 0, part 1, part 2, part 3)

-- the test of the search
abbrev passes : Sealing → List ℕ → ℕ → List ℕ → List ℕ → Bool
passes sealed implicit kid datagram inner = bytes_eq (packet sealed implicit kid (peer_in datagram) (id_in datagram) inner) datagram

-- what opens passes, and is all that does
opens_passes : (sealed : Sealing) (implicit : List ℕ) (kid id : ℕ) (datagram inner : List ℕ) → Lengths sealed → Opens sealed implicit kid datagram id inner →
    passes sealed implicit kid datagram inner ≡ true
opens_passes sealed implicit kid id datagram inner lengths opens =
    (bytes_eq-Decides (packet sealed implicit kid (peer_in datagram) (id_in datagram) inner) datagram).1
    (ap (λ (i : ℕ). packet sealed implicit kid (peer_in datagram) i inner) (id_opened sealed implicit kid id datagram inner lengths opens) ∙ sym opens.is_packet)

passes_opens : (sealed : Sealing) (implicit : List ℕ) (kid : ℕ) (datagram inner : List ℕ) → peer_in datagram < 2 ^ 24 → id_in datagram < 2 ^ 32 →
    passes sealed implicit kid datagram inner ≡ true → Opens sealed implicit kid datagram (id_in datagram) inner
passes_opens sealed implicit kid datagram inner peer id good = record {
  peer_fits = peer;
  id_fits = id;
  is_packet = sym ((bytes_eq-Decides (packet sealed implicit kid (peer_in datagram) (id_in datagram) inner) datagram).0 good);
}

-- what opens is found
pub opens_opening : (sealed : Sealing) (implicit : List ℕ) (kid id : ℕ) (datagram inner : List ℕ) → Lengths sealed → OnePlain sealed → IsBytes inner →
    Opens sealed implicit kid datagram id inner → opening sealed implicit kid datagram ≡ Some (id, inner)
unfolding opening
opens_opening sealed implicit kid id datagram inner lengths one_plain small opens =
    let same = id_opened sealed implicit kid id datagram inner lengths opens in
    let id_fits = subst (λ (i : ℕ). i < 2 ^ 32) (sym same) opens.id_fits in
    let only : (other : List ℕ) → passes sealed implicit kid datagram other ≡ true → other ≡ inner =
    λ other good. (one_opens sealed implicit kid datagram (id_in datagram) id other inner lengths one_plain
    (passes_opens sealed implicit kid datagram other opens.peer_fits id_fits good) opens).1 in
    ap (option_map (λ (t : List ℕ). (id_in datagram, t)))
    (one_found (passes sealed implicit kid datagram) (length datagram - 24) inner (length_opened sealed implicit kid id datagram inner lengths opens) small
    (opens_passes sealed implicit kid id datagram inner lengths opens) only)
    ∙ ap (λ (i : ℕ). Some (i, inner)) same

some_behind : (i : ℕ) (r : Option (List ℕ)) (id : ℕ) (inner : List ℕ) → option_map {U = ℕ × List ℕ} (λ (t : List ℕ). (i, t)) r ≡ Some (id, inner) → (r ≡ Some inner) × (i ≡ id)
some_behind i None id inner h = absurd cc
some_behind i (Some t) id inner h =
    let pair : ℕ → List ℕ → ℕ × List ℕ = λ a b. (a, b) in
    let both : pair i t ≡ pair id inner = cc in (ap (λ s. Some s.1) both, ap (λ s. s.0) both)

-- what is found opens
pub opening_opens : (sealed : Sealing) (implicit : List ℕ) (kid id : ℕ) (datagram inner : List ℕ) → IsBytes datagram →
    opening sealed implicit kid datagram ≡ Some (id, inner) → Opens sealed implicit kid datagram id inner × IsBytes inner
unfolding opening
opening_opens sealed implicit kid id datagram inner small found =
    let parts = some_behind (id_in datagram) (text_with (passes sealed implicit kid datagram) (length datagram - 24)) id inner found in
    let good = found_text (passes sealed implicit kid datagram) (length datagram - 24) inner parts.0 in (
      subst (λ (i : ℕ). Opens sealed implicit kid datagram i inner) parts.1
          (passes_opens sealed implicit kid datagram inner (peer_small datagram small) (id_small datagram small) good.0),
      good.2,
    )

-- where nothing opens nothing is found
nothing_case : (r : Option (ℕ × List ℕ)) → ((id : ℕ) (inner : List ℕ) → r ≡ Some (id, inner) → ⊥) → r ≡ None
nothing_case None never = refl
nothing_case (Some p) never = absurd (never p.0 p.1 refl)

pub not_opening : (sealed : Sealing) (implicit : List ℕ) (kid : ℕ) (datagram : List ℕ) → IsBytes datagram →
    ((id : ℕ) (inner : List ℕ) → IsBytes inner → Opens sealed implicit kid datagram id inner → ⊥) → opening sealed implicit kid datagram ≡ None
not_opening sealed implicit kid datagram small never =
    nothing_case (opening sealed implicit kid datagram)
    (λ id inner found. let opens = opening_opens sealed implicit kid id datagram inner small found in never id inner opens.1 opens.0)

pub opening_none : (sealed : Sealing) (implicit : List ℕ) (kid : ℕ) (datagram : List ℕ) → Lengths sealed → OnePlain sealed → opening sealed implicit kid datagram ≡ None →
    (id : ℕ) (inner : List ℕ) → IsBytes inner → Opens sealed implicit kid datagram id inner → ⊥
opening_none sealed implicit kid datagram lengths one_plain none id inner small opens =
    let some = opens_opening sealed implicit kid id datagram inner lengths one_plain small opens in cc
