-- The S-box of AES (FIPS 197, section 5.1.1): the inverse in GF(2^8), and then an affine map on its bits.
use Rattle.std.specs.Prelude.{ℕ, zero, suc, ◌+◌, ◌*◌, ◌%◌, ◌^◌, ◌==◌, if◌then◌else◌}
use Rattle.std.specs.Int.{bit_at}
use Rattle.aes_core.specs.Field.{product}

-- the number below n whose product with a is 1, or 0 where there is none
unfoldable pub inverse_below : ℕ → ℕ → ℕ
inverse_below a zero = 0
inverse_below a (suc n) = if product a n == 1 then n else inverse_below a n

-- the multiplicative inverse of a byte, where the inverse of 0 is 0 (5.1.1, step 1)
unfoldable pub inverse : ℕ → ℕ
inverse a = inverse_below a 256

-- bit i of the affine map's value at b (5.1.1, step 2)
abbrev pub affine_bit : ℕ → ℕ → ℕ
affine_bit b i =
    (bit_at b i + bit_at b ((i + 4) % 8) + bit_at b ((i + 5) % 8) + bit_at b ((i + 6) % 8)
    + bit_at b ((i + 7) % 8) + bit_at 0x63 i) % 2

-- the number whose first n bits are those of the affine map's value at b
unfoldable pub affine_below : ℕ → ℕ → ℕ
affine_below b zero = 0
affine_below b (suc i) = affine_below b i + affine_bit b i * 2 ^ i

-- the affine map (5.1.1, step 2)
unfoldable pub affine : ℕ → ℕ
affine b = affine_below b 8

-- the value that SubBytes puts for a byte (5.1.1)
unfoldable pub sbox : ℕ → ℕ
sbox a = affine (inverse a)
