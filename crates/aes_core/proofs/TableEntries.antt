-- The tables have the values that the definitions compute.
use Rattle.std.proofs.Common.{◌≡◌, ℕ, ◌+◌, ◌*◌, ◌/◌, ◌%◌, ◌<◌, List, [], length, get_or, refl, sym, ap, ◌∙◌, arith}
use Rattle.std.specs.Prelude.{map}
use Rattle.std.specs.List.{range_with_len}
use Rattle.std.proofs.lemmas.List.{get_or-map}
use Rattle.std.proofs.lemmas.List.FromFn.{get_or-map-range_with_len}
use Rattle.aes_core.specs.internal.Columns.{mixed_part}
use Rattle.aes_core.specs.Field.{product, product_below, times_power}
use Rattle.aes_core.specs.SBox.{affine, affine_below, inverse, inverse_below, sbox}
use Rattle.aes_core.specs.internal.Words.{word_bytes}
use Rattle.aes_core.specs.declared.tables.TheConstants.{ROUND_CONSTANTS, ROUND_TABLE, SBOX}

-- the S-box's table is the S-box
sbox_table : SBOX ≡ map sbox (range_with_len 0 256)
unfolding times_power product_below product inverse_below inverse affine_below affine sbox
sbox_table = refl

pub sbox_at : (i : ℕ) → i < 256 → get_or SBOX i 0 ≡ sbox i
sbox_at i h = ap (λ xs. get_or xs i 0) sbox_table ∙ get_or-map-range_with_len sbox 0 256 i i 0 h (omega arith)

-- the powers of x
constants_table : ROUND_CONSTANTS ≡ map (times_power 1) (range_with_len 0 10)
unfolding times_power
constants_table = refl

pub constant_at : (i : ℕ) → i < 10 → get_or ROUND_CONSTANTS i 0 ≡ times_power 1 i
constant_at i h = ap (λ xs. get_or xs i 0) constants_table ∙ get_or-map-range_with_len (times_power 1) 0 10 i i 0 h (omega arith)

-- what the table has at a place, by the S-box's table
abbrev mixed_place : ℕ → List ℕ
mixed_place i = mixed_part (i / 256) (get_or SBOX (i % 256) 0)

mixed_table : map word_bytes ROUND_TABLE ≡ map mixed_place (range_with_len 0 1024)
unfolding times_power product_below product
mixed_table = refl

length_table : length ROUND_TABLE ≡ 1024
length_table = refl

-- the entry of a row for a byte
pub mixed_at : (i r b : ℕ) → b < 256 → r < 4 → i ≡ r * 256 + b → word_bytes (get_or ROUND_TABLE i 0) ≡ mixed_part r (sbox b)
mixed_at i r b h g e =
    let row : i / 256 ≡ r = omega arith in
    let byte : i % 256 ≡ b = omega arith in
    let within : i < length ROUND_TABLE = omega (arith, length_table) in
    let read : get_or (map word_bytes ROUND_TABLE) i [] ≡ word_bytes (get_or ROUND_TABLE i 0) = get_or-map word_bytes ROUND_TABLE i 0 [] within in
    let at : get_or (map mixed_place (range_with_len 0 1024)) i [] ≡ mixed_place i = get_or-map-range_with_len mixed_place 0 1024 i i [] (omega arith) (omega arith) in
    sym read ∙ ap (λ xs. get_or xs i []) mixed_table ∙ at
    ∙ (λ j. mixed_part (row j) (get_or SBOX (byte j) 0)) ∙ ap (mixed_part r) (sbox_at b h)
