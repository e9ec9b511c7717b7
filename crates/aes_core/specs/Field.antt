-- The field GF(2^8) (FIPS 197, section 4): a byte is a polynomial, bit i is the coefficient of x ^ i.
use Rattle.std.specs.Prelude.{ℕ, zero, suc, ◌*◌, List, [], ◌∷◌, bit_xor, nat_lt, if◌then◌else◌}
use Rattle.std.specs.Int.{bit_at}

-- the sum of two lists, byte by byte (4.1); what the second list does not reach stays as it is
abbrev pub xor_bytes : List ℕ → List ℕ → List ℕ
xor_bytes [] ys = []
xor_bytes (x ∷ xs) [] = x ∷ xs
xor_bytes (x ∷ xs) (y ∷ ys) = bit_xor x y ∷ xor_bytes xs ys

-- a times x, modulo x ^ 8 + x ^ 4 + x ^ 3 + x + 1 (4.2)
abbrev pub xtime : ℕ → ℕ
xtime a = if nat_lt a 128 then 2 * a else bit_xor (2 * a) 0x11b

-- a times x ^ k (4.2)
unfoldable pub times_power : ℕ → ℕ → ℕ
times_power a zero = a
times_power a (suc k) = xtime (times_power a k)

-- the sum of a times x ^ k, for each coefficient k of b that is 1, of the first n coefficients
unfoldable pub product_below : ℕ → ℕ → ℕ → ℕ
product_below a b zero = 0
product_below a b (suc k) = bit_xor (product_below a b k) (bit_at b k * times_power a k)

-- the product of a and b (4.2)
unfoldable pub product : ℕ → ℕ → ℕ
product a b = product_below a b 8
