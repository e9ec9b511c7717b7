-- Masks and their lengths.
use Rattle.std.proofs.Common.{◌≡◌, ℕ, zero, suc, ◌-◌, ◌^◌, ◌<◌, ◌≤◌, ◌==◌, Bool, cond, List, map, get_or, Some, None, refl, ap, sym, ◌∙◌, arith}
use Rattle.std.proofs.lemmas.List.FromFn.{get_or-map-range_with_len}
use Rattle.std.specs.List.{range_with_len}
use Rattle.std.proofs.lemmas.Nat.{pow_pos}
use borrow.Author.Tests.{eq-eqb, ne_eqb}
use Rattle.std.specs.Prelude.{Option}
use Rattle.vpn_base.specs.declared.address.Ip4.{Ip4}
use Rattle.vpn_base.specs.Address.{ip4_of, ip4_text}
use Rattle.vpn_text.specs.Mask.{length_upto, length_of, mask_number, mask_of, mask_text}

-- the mask is this one
pub found : (len n : ℕ) → 0 < len → n ≡ mask_number len → length_upto len n ≡ Some len
unfolding length_upto
found zero n some is = absurd (omega arith)
found (suc len) n some is = ap (λ (b : Bool). cond b (Some (suc len)) (length_upto len n)) (eq-eqb n (mask_number (suc len)) is)

-- it is a shorter one
pub passed : (len n : ℕ) → 0 < len → (n ≡ mask_number len → ⊥) → length_upto len n ≡ length_upto (len - 1) n
unfolding length_upto
passed zero n some other = absurd (omega arith)
passed (suc len) n some other =
    ap (λ (b : Bool). cond b (Some (suc len)) (length_upto len n)) (ne_eqb n (mask_number (suc len)) other) ∙ ap (λ (m : ℕ). length_upto m n) same where
      same : len ≡ suc len - 1
      same = omega arith

-- there is none
pub none_left : (n : ℕ) → length_upto 0 n ≡ cond (n == 0) (Some 0) None
unfolding length_upto
none_left n = refl

again_table : map (λ len. length_upto 32 (mask_number len)) (range_with_len 0 33) ≡ map (λ len. Some len) (range_with_len 0 33)
unfolding length_upto
again_table = refl

again_at : (len : ℕ) → len ≤ 32 → length_upto 32 (mask_number len) ≡ Some len
again_at len small =
    sym (get_or-map-range_with_len (λ (n : ℕ). length_upto 32 (mask_number n)) 0 33 len len None (omega arith) (omega arith))
    ∙ ap (λ (l : List (Option ℕ)). get_or l len None) again_table
    ∙ get_or-map-range_with_len (λ (n : ℕ). Some n) 0 33 len len None (omega arith) (omega arith)

mask_small : (len : ℕ) → mask_number len < 2 ^ 32
mask_small len = omega (arith, pow_pos (32 - len))

-- the mask of a length is read as that length
pub mask_again : ((a : Ip4) → a.0 < 2 ^ 32 → ip4_of (ip4_text a) ≡ Some a) → (len : ℕ) → len ≤ 32 → mask_of (mask_text len) ≡ Some len
unfolding mask_of mask_text
mask_again again len small =
    ap length_of (again (record { 0 = mask_number len }) (mask_small len)) ∙ again_at len small
