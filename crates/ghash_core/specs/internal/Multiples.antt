-- What the table of a hash key holds.
use Rattle.std.specs.Prelude.{◌≡◌, ℕ, ◌*◌, ◌/◌, ◌%◌, ◌^◌, ◌<◌, List, slice_index}
use Rattle.ghash_core.specs.Field.{product, times_power}

-- the powers of x, from the first on, times an element
abbrev pub ArePowers : List ℕ → ℕ → Type 0
ArePowers powers y = (i : ℕ) → i < 128 → slice_index powers i ≡ times_power y i

-- for each place of four bits and each value there, the product of that element and y
abbrev pub AreMultiples : List ℕ → ℕ → Type 0
AreMultiples multiples y =
    (k : ℕ) → k < 512 → slice_index multiples k ≡ product (k % 16 * 2 ^ (4 * (k / 16))) y
