-- The field GF(2^128) of NIST SP 800-38D, section 6.3. An element is the number of its block of 16
-- bytes, the first byte highest, so bit i of the block, counted from its left end, is bit 127 - i
-- of the number and the coefficient of x^i.
use Rattle.std.specs.Prelude.{ℕ, zero, suc, ◌-◌, ◌*◌, ◌/◌, ◌%◌, ◌^◌, ◌==◌, if◌then◌else◌, bit_xor}
use Rattle.std.specs.Int.{bit_at}

-- the coefficient of x^i (6.3)
abbrev pub coefficient : ℕ → ℕ → ℕ
coefficient x i = bit_at x (127 - i)

-- the block R: 11100001, then 120 zeros (6.3)
abbrev pub reduction : ℕ
reduction = 0xe1 * 2 ^ 120

-- an element times the polynomial x: one place to the right, plus R if the last bit falls out (6.3,
-- step 3)
abbrev pub times_x : ℕ → ℕ
times_x v = if v % 2 == 1 then bit_xor (v / 2) reduction else v / 2

-- an element times x^i
unfoldable pub times_power : ℕ → ℕ → ℕ
times_power v zero = v
times_power v (suc i) = times_x (times_power v i)

-- the sum, over the first n coefficients of x, of y times x^i where the coefficient i is 1 (6.3,
-- step 3)
unfoldable pub partial_product : ℕ → ℕ → ℕ → ℕ
partial_product x y zero = 0
partial_product x y (suc i) =
    bit_xor (partial_product x y i) (if coefficient x i == 1 then times_power y i else 0)

-- the product of two elements: the sum over all 128 coefficients (6.3)
unfoldable pub product : ℕ → ℕ → ℕ
product x y = partial_product x y 128
