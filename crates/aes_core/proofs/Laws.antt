-- What holds of sums of lists of bytes.
use Rattle.std.proofs.Common.{◌≡◌, ℕ, suc, List, [], ◌∷◌, length, bit_xor, refl, ap, ◌∙◌}
use lib.Bits.{xor_assoc, xor_self, xor_zero_r}
use Rattle.aes_core.specs.Field.{xor_bytes}

-- a sum is as long as its first list
pub length-xor_bytes : (xs ys : List ℕ) → length (xor_bytes xs ys) ≡ length xs
length-xor_bytes [] ys = refl
length-xor_bytes (x ∷ xs) [] = refl
length-xor_bytes (x ∷ xs) (y ∷ ys) = ap suc (length-xor_bytes xs ys)

-- what is added twice is gone
pub xor_bytes_twice : (xs ys : List ℕ) → xor_bytes (xor_bytes xs ys) ys ≡ xs
xor_bytes_twice [] ys = refl
xor_bytes_twice (x ∷ xs) [] = refl
xor_bytes_twice (x ∷ xs) (y ∷ ys) =
    let first = xor_assoc x y y ∙ ap (bit_xor x) (xor_self y) ∙ xor_zero_r x in
    ap (λ (z : ℕ). z ∷ xor_bytes (xor_bytes xs ys) ys) first ∙ ap (λ (rest : List ℕ). x ∷ rest) (xor_bytes_twice xs ys)
