-- What the search finds is what unwraps.
use Rattle.std.proofs.Common.{◌≡◌, ℕ, ◌+◌, ◌-◌, ◌^◌, ◌<◌, Bool, true, List, length, take, drop, get_or, Option, Some, None, refl, sym, ap, subst, ◌∙◌, arith}
use Rattle.std.specs.Prelude.{option_map}
use Rattle.std.specs.Int.{w32, from_be_bytes, to_be_bytes}
use Rattle.std.specs.Str.{bytes_eq}
use Rattle.std.proofs.lemmas.List.{drop-take, get_or-take, length-drop, length-take, take-take}
use Rattle.std.proofs.lemmas.Nat.{from_be_bytes-to_be_bytes_4}
use Rattle.std.proofs.lemmas.Slice.Eq.{bytes_eq-Decides}
use Rattle.byte_texts.specs.Texts.{IsBytes, text_with}
use Rattle.byte_texts.proofs.Parts.{IsBytes-drop, IsBytes-take}
use Rattle.byte_texts.proofs.Searching.{found_text, one_found}
use Rattle.tls_crypt.specs.Wrapped.{header}
use Rattle.tls_crypt.specs.Packets.{InRange, IsFramed, IsOneToOne, Packet, Wrapping, wrapped_by}
use Rattle.tls_crypt.specs.Unwrapping.{FindsWhatUnwraps, Unwraps, packet_in, unwrapping}
use Rattle.tls_crypt.specs.internal.Laws.{header_first, header_id, header_sid, header_time}

-- the fields of a header stand in a datagram that begins with it
fields_in : (p : Packet) (datagram : List ℕ) → InRange p → take 17 datagram ≡ header p.first p.sid p.id p.time → packet_in datagram p.plain ≡ p
fields_in p datagram fits begins =
    let firsts : get_or datagram 0 0 ≡ p.first =
    sym (get_or-take 17 datagram 0 0 (omega arith)) ∙ ap (λ (h : List ℕ). get_or h 0 0) begins ∙ header_first p.first p.sid p.id p.time in
    let sids : take 8 (drop 1 datagram) ≡ p.sid =
    sym (ap (take 8) (drop-take 1 16 datagram) ∙ take-take 8 16 (drop 1 datagram) (omega arith)) ∙ ap (λ (h : List ℕ). take 8 (drop 1 h)) begins
    ∙ header_sid p.first p.sid p.id p.time fits.sid in
    let id_bytes : take 4 (drop 9 datagram) ≡ to_be_bytes w32 p.id =
    sym (ap (take 4) (drop-take 9 8 datagram) ∙ take-take 4 8 (drop 9 datagram) (omega arith)) ∙ ap (λ (h : List ℕ). take 4 (drop 9 h)) begins
    ∙ header_id p.first p.sid p.id p.time fits.sid in
    let time_bytes : take 4 (drop 13 datagram) ≡ to_be_bytes w32 p.time =
    sym (drop-take 13 4 datagram) ∙ ap (drop 13) begins ∙ header_time p.first p.sid p.id p.time fits.sid in
    let ids = ap (from_be_bytes w32) id_bytes ∙ from_be_bytes-to_be_bytes_4 p.id fits.id in
    let times = ap (from_be_bytes w32) time_bytes ∙ from_be_bytes-to_be_bytes_4 p.time fits.time in
    λ i. record { first = firsts i; sid = sids i; id = ids i; time = times i; plain = p.plain }

-- a datagram begins with the header of what wraps to it
begins_with : (wraps : Wrapping) (datagram : List ℕ) (p : Packet) → IsFramed wraps → Unwraps wraps datagram p →
    take 17 datagram ≡ header p.first p.sid p.id p.time
begins_with wraps datagram p frame unwraps =
    let seventeen : 9 + length p.sid ≡ 17 = omega (arith, unwraps.in_range.sid) in
    ap (take 17) unwraps.is_wrapped ∙ ap (λ (n : ℕ). take n (wrapped_by wraps p)) (sym seventeen) ∙ (frame p.first p.sid p.id p.time p.plain).0

-- and is 49 bytes longer than the plain text
plain_size : (wraps : Wrapping) (datagram : List ℕ) (p : Packet) → IsFramed wraps → Unwraps wraps datagram p → length datagram ≡ 49 + length p.plain
plain_size wraps datagram p frame unwraps =
    omega (arith, ap length unwraps.is_wrapped, (frame p.first p.sid p.id p.time p.plain).1, unwraps.in_range.sid)

-- the test of the search
abbrev passes : Wrapping → List ℕ → List ℕ → Bool
passes wraps datagram plain = bytes_eq (wrapped_by wraps (packet_in datagram plain)) datagram

passed : (wraps : Wrapping) (datagram plain : List ℕ) → passes wraps datagram plain ≡ true → wrapped_by wraps (packet_in datagram plain) ≡ datagram
passed wraps datagram plain good = (bytes_eq-Decides (wrapped_by wraps (packet_in datagram plain)) datagram).0 good

-- what unwraps is found
pub unwraps_found : (wraps : Wrapping) (datagram : List ℕ) (p : Packet) → IsFramed wraps → IsOneToOne wraps → Unwraps wraps datagram p → unwrapping wraps datagram ≡ Some p
unfolding unwrapping
unwraps_found wraps datagram p frame once unwraps =
    let same = fields_in p datagram unwraps.in_range (begins_with wraps datagram p frame unwraps) in
    let fits : InRange (packet_in datagram p.plain) = subst InRange (sym same) unwraps.in_range in
    let good = (bytes_eq-Decides (wrapped_by wraps (packet_in datagram p.plain)) datagram).1 (ap (wrapped_by wraps) same ∙ sym unwraps.is_wrapped) in
    let only : (other : List ℕ) → passes wraps datagram other ≡ true → other ≡ p.plain =
    λ other right. ap (λ (q : Packet). q.plain)
    (once (packet_in datagram other) p (record { sid = fits.sid; id = fits.id; time = fits.time }) unwraps.in_range
    (passed wraps datagram other right ∙ unwraps.is_wrapped)) in
    ap (option_map (packet_in datagram))
    (one_found (passes wraps datagram) (length datagram - 49) p.plain (omega (arith, plain_size wraps datagram p frame unwraps)) unwraps.bytes good only)
    ∙ ap (λ (q : Packet). Some q) same

-- the fields that stand in a datagram of bytes are in range
four_small : (bytes : List ℕ) → IsBytes bytes → from_be_bytes w32 bytes < 2 ^ 32
four_small bytes small = omega (arith, small 0, small 1, small 2, small 3)

fields_fit : (wraps : Wrapping) (datagram plain : List ℕ) → IsFramed wraps → IsBytes datagram → wrapped_by wraps (packet_in datagram plain) ≡ datagram →
    InRange (packet_in datagram plain)
fields_fit wraps datagram plain frame small is =
    let p = packet_in datagram plain in
    let size = (frame p.first p.sid p.id p.time p.plain).1 in record {
      sid = omega (arith, size, ap length is, length-take 8 (drop 1 datagram), length-drop 1 datagram);
      id = four_small (take 4 (drop 9 datagram)) (IsBytes-take 4 (drop 9 datagram) (IsBytes-drop 9 datagram small));
      time = four_small (take 4 (drop 13 datagram)) (IsBytes-take 4 (drop 13 datagram) (IsBytes-drop 13 datagram small));
    }

-- what is found unwraps
some_behind : (f : List ℕ → Packet) (r : Option (List ℕ)) (p : Packet) → option_map f r ≡ Some p → (plain : List ℕ) × (r ≡ Some plain) × (f plain ≡ p)
some_behind f None p h = absurd cc
some_behind f (Some plain) p h = (plain, refl, cc)

pub found_unwraps : (wraps : Wrapping) (datagram : List ℕ) (p : Packet) → IsFramed wraps → IsBytes datagram → unwrapping wraps datagram ≡ Some p → Unwraps wraps datagram p
unfolding unwrapping
found_unwraps wraps datagram p frame small found =
    let behind = some_behind (packet_in datagram) (text_with (passes wraps datagram) (length datagram - 49)) p found in
    let good = found_text (passes wraps datagram) (length datagram - 49) behind.0 behind.1 in
    let is = passed wraps datagram behind.0 good.0 in
    subst (Unwraps wraps datagram) behind.2
    (record { in_range = fields_fit wraps datagram behind.0 frame small is; bytes = good.2; is_wrapped = sym is })

-- where nothing unwraps nothing is found
nothing_case : (r : Option Packet) → ((p : Packet) → r ≡ Some p → ⊥) → r ≡ None
nothing_case None never = refl
nothing_case (Some p) never = absurd (never p refl)

pub none_found : (wraps : Wrapping) (datagram : List ℕ) → IsFramed wraps → IsBytes datagram → ((p : Packet) → Unwraps wraps datagram p → ⊥) → unwrapping wraps datagram ≡ None
none_found wraps datagram frame small never =
    nothing_case (unwrapping wraps datagram) (λ p found. never p (found_unwraps wraps datagram p frame small found))

none_unwraps : (wraps : Wrapping) (datagram : List ℕ) → IsFramed wraps → IsOneToOne wraps → unwrapping wraps datagram ≡ None → (p : Packet) → Unwraps wraps datagram p → ⊥
none_unwraps wraps datagram frame once none p unwraps =
    let some = unwraps_found wraps datagram p frame once unwraps in cc

pub finds_what_unwraps : (wraps : Wrapping) → IsFramed wraps → IsOneToOne wraps → FindsWhatUnwraps wraps
finds_what_unwraps wraps frame once = record {
  some = λ datagram p small. (found_unwraps wraps datagram p frame small, unwraps_found wraps datagram p frame once);
  none = λ datagram small. (none_unwraps wraps datagram frame once, none_found wraps datagram frame small);
}

-- nothing is found in what is too short
pub short_found : (wraps : Wrapping) (datagram : List ℕ) → IsFramed wraps → IsBytes datagram → length datagram < 49 → unwrapping wraps datagram ≡ None
short_found wraps datagram frame small short =
    none_found wraps datagram frame small (λ p unwraps. omega (arith, plain_size wraps datagram p frame unwraps))
