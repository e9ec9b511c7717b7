-- A product as a sum of table entries, four bits of the element at a time.
use Rattle.std.proofs.Common.{◌≡◌, ℕ, ◌+◌, ◌*◌, ◌/◌, ◌%◌, ◌^◌, ◌<◌, List, bit_and, bit_xor, slice_index, ap, sym, ◌∙◌, arith}
use Rattle.std.proofs.lemmas.Nat.{and_mask, mod_below, pow_pos, xor_comm}
use lib.Bits.{xor_shifted}
use Rattle.ghash_core.specs.Field.{product}
use Rattle.ghash_core.specs.internal.Multiples.{AreMultiples}
use Rattle.ghash_core.proofs.Linear.{product-xor, product_digits}

-- the entry for a digit at a place
entry_at : (table : List ℕ) (y place digit : ℕ) → AreMultiples table y → place < 32 → digit < 16 → slice_index table (16 * place + digit) ≡ product (digit * 2 ^ (4 * place)) y
entry_at table y place digit multiples in_table small =
    let k : ℕ = 16 * place + digit in
    let rest : k % 16 ≡ digit = omega arith in
    let whole : k / 16 ≡ place = omega arith in
    multiples k (omega arith)
    ∙ ap (λ (d : ℕ). product (d * 2 ^ (4 * (k / 16))) y) rest
    ∙ ap (λ (p : ℕ). product (digit * 2 ^ (4 * p)) y) whole

-- one place more of a half that begins some places from the right
pub place_more : (table : List ℕ) (y half first place sum : ℕ) → AreMultiples table y → first + place < 32 → sum ≡ product (half % 2 ^ (4 * place) * 2 ^ (4 * first)) y → bit_xor sum (slice_index table (16 * (first + place) + bit_and (half / 2 ^ (4 * place)) 15)) ≡ product (half % 2 ^ (4 * (place + 1)) * 2 ^ (4 * first)) y
place_more table y half first place sum multiples in_table so_far =
    let digit : ℕ = half / 2 ^ (4 * place) % 2 ^ 4 in
    let small : digit < 16 = mod_below (half / 2 ^ (4 * place)) 16 (omega arith) in
    let shift : 4 * (first + place) ≡ 4 * place + 4 * first = omega arith in
    let order : 4 + 4 * place ≡ 4 * (place + 1) = omega arith in
    let masked : bit_and (half / 2 ^ (4 * place)) 15 ≡ digit = and_mask (half / 2 ^ (4 * place)) 4 in
    ap (λ (z : ℕ). bit_xor z (slice_index table (16 * (first + place) + bit_and (half / 2 ^ (4 * place)) 15))) so_far
    ∙ ap (λ (d : ℕ). bit_xor (product (half % 2 ^ (4 * place) * 2 ^ (4 * first)) y) (slice_index table (16 * (first + place) + d))) masked
    ∙ ap (bit_xor (product (half % 2 ^ (4 * place) * 2 ^ (4 * first)) y))
    (entry_at table y (first + place) digit multiples in_table small ∙ ap (λ (e : ℕ). product (digit * 2 ^ e) y) shift)
    ∙ sym (product_digits half y (4 * place) 4 (4 * first))
    ∙ ap (λ (e : ℕ). product (half % 2 ^ e * 2 ^ (4 * first)) y) order

-- a product as that of the two halves
pub product_halves : (x y : ℕ) → bit_xor (product (x % 2 ^ 64 * 2 ^ (4 * 0)) y) (product (x / 2 ^ 64 * 2 ^ (4 * 16)) y) ≡ product x y
product_halves x y =
    let unshifted : x % 2 ^ 64 * 2 ^ (4 * 0) ≡ x % 2 ^ 64 = omega arith in
    let whole : x / 2 ^ 64 * 2 ^ 64 + x % 2 ^ 64 ≡ x = omega arith in
    ap (λ (z : ℕ). bit_xor (product z y) (product (x / 2 ^ 64 * 2 ^ 64) y)) unshifted
    ∙ xor_comm (product (x % 2 ^ 64) y) (product (x / 2 ^ 64 * 2 ^ 64) y)
    ∙ sym (product-xor (x / 2 ^ 64 * 2 ^ 64) (x % 2 ^ 64) y)
    ∙ ap (λ (z : ℕ). product z y) (xor_shifted (x / 2 ^ 64) 64 (x % 2 ^ 64) (mod_below x (2 ^ 64) (pow_pos 64)) ∙ whole)
