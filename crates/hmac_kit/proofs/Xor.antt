-- Bytes xored in place, front first.
use Rattle.std.proofs.Common.{◌≡◌, ℕ, zero, suc, ◌≤◌, ◌<◌, List, [], ◌∷◌, ◌++◌, length, take, drop, get_or, refl, ap, sym, min, take_all, inl, inr, arith}
use Rattle.std.proofs.Math.ListN.{set, replicate}
use Rattle.std.specs.Int.Bits.{bit_xor, xor_zero_l}
use Rattle.std.proofs.lemmas.Bool.{cases_lt}
use Rattle.hmac_kit.specs.Prf.{xor_bytes}

-- nothing xored onto bytes
pub xor_bytes-nil : (xs : List ℕ) → xor_bytes xs [] ≡ xs
unfolding xor_bytes
xor_bytes-nil [] = refl
xor_bytes-nil (x ∷ xs) = refl

pub length-xor_bytes : (xs ys : List ℕ) → length (xor_bytes xs ys) ≡ length xs
unfolding xor_bytes
length-xor_bytes [] ys = refl
length-xor_bytes (x ∷ xs) [] = refl
length-xor_bytes (x ∷ xs) (y ∷ ys) = ap suc (length-xor_bytes xs ys)

-- one more byte is xored
pub xor_bytes-more : (xs ys : List ℕ) (k : ℕ) → k < length xs → k < length ys
    → set (xor_bytes xs (take k ys)) k (bit_xor (get_or (xor_bytes xs (take k ys)) k 0) (get_or ys k 0)) ≡ xor_bytes xs (take (suc k) ys)
unfolding xor_bytes
xor_bytes-more [] ys k in_xs in_ys = absurd (omega arith)
xor_bytes-more (x ∷ xs) [] k in_xs in_ys = absurd (omega arith)
xor_bytes-more (x ∷ xs) (y ∷ ys) zero in_xs in_ys = ap (λ (zs : List ℕ). bit_xor x y ∷ zs) (sym (xor_bytes-nil xs))
xor_bytes-more (x ∷ xs) (y ∷ ys) (suc k) in_xs in_ys = ap (λ (zs : List ℕ). bit_xor x y ∷ zs) (xor_bytes-more xs ys k (omega arith) (omega arith))

-- what stands past the end of the bytes doesn't matter
pub xor_bytes-take : (xs ys : List ℕ) (n : ℕ) → length xs ≤ n → xor_bytes xs (take n ys) ≡ xor_bytes xs ys
unfolding xor_bytes
xor_bytes-take [] ys n long = refl
xor_bytes-take (x ∷ xs) [] zero long = absurd (omega arith)
xor_bytes-take (x ∷ xs) [] (suc n) long = refl
xor_bytes-take (x ∷ xs) (y ∷ ys) zero long = absurd (omega arith)
xor_bytes-take (x ∷ xs) (y ∷ ys) (suc n) long = ap (λ (zs : List ℕ). bit_xor x y ∷ zs) (xor_bytes-take xs ys n (omega arith))

-- a list is xored as its front is, and behind it as the rest is
pub xor_bytes-append : (xs ys zs : List ℕ) → xor_bytes xs (ys ++ zs) ≡ take (length ys) (xor_bytes xs ys) ++ xor_bytes (drop (length ys) (xor_bytes xs ys)) zs
unfolding xor_bytes
xor_bytes-append [] [] zs = refl
xor_bytes-append [] (y ∷ ys) zs = refl
xor_bytes-append (x ∷ xs) [] zs = refl
xor_bytes-append (x ∷ xs) (y ∷ ys) zs = ap (λ (ws : List ℕ). bit_xor x y ∷ ws) (xor_bytes-append xs ys zs)

-- zeros take the bytes that are xored onto them
pub xor_bytes-zeros : (ys : List ℕ) → xor_bytes (replicate (length ys) 0) ys ≡ ys
unfolding xor_bytes
xor_bytes-zeros [] = refl
xor_bytes-zeros (y ∷ ys) = rw (xor_zero_l, xor_bytes-zeros ys) refl

-- as many bytes as both have
pub xor_up_to : (xs ys : List ℕ) (k : ℕ) → min (length xs) (length ys) ≤ k → xor_bytes xs (take k ys) ≡ xor_bytes xs ys
xor_up_to xs ys k whole =
    elim (cases_lt k (length xs)) [
      | inl short ↦ ap (xor_bytes xs) (take_all k ys (omega arith))
      | inr long ↦ xor_bytes-take xs ys k long
    ]
