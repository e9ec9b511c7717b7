-- Sums of lists of bytes, part by part.
use Rattle.std.proofs.Common.{◌≡◌, ℕ, zero, suc, ◌+◌, ◌<◌, ◌≤◌, List, [], ◌∷◌, ◌++◌, length, get_or, set, take, drop, bit_xor, refl, sym, ap, ◌∙◌, arith}
use Rattle.std.proofs.lemmas.Nat.{xor_comm}
use lib.Bits.{xor_assoc}
use Rattle.aes_core.specs.Field.{xor_bytes}

pub xor_bytes-nil : (xs : List ℕ) → xor_bytes xs [] ≡ xs
xor_bytes-nil [] = refl
xor_bytes-nil (x ∷ xs) = refl

-- what is added past the end of the first list does not count
pub xor_bytes-take : (xs ys : List ℕ) → xor_bytes xs (take (length xs) ys) ≡ xor_bytes xs ys
xor_bytes-take [] ys = refl
xor_bytes-take (x ∷ xs) [] = refl
xor_bytes-take (x ∷ xs) (y ∷ ys) = ap (λ r. bit_xor x y ∷ r) (xor_bytes-take xs ys)

xor_swap : (a b c : ℕ) → bit_xor (bit_xor a b) c ≡ bit_xor (bit_xor a c) b
xor_swap a b c = xor_assoc a b c ∙ ap (bit_xor a) (xor_comm b c) ∙ sym (xor_assoc a c b)

-- the order in which two lists are added is free
pub xor_bytes-swap : (xs ys zs : List ℕ) → xor_bytes (xor_bytes xs ys) zs ≡ xor_bytes (xor_bytes xs zs) ys
xor_bytes-swap [] ys zs = refl
xor_bytes-swap (x ∷ xs) [] [] = refl
xor_bytes-swap (x ∷ xs) [] (z ∷ zs) = refl
xor_bytes-swap (x ∷ xs) (y ∷ ys) [] = refl
xor_bytes-swap (x ∷ xs) (y ∷ ys) (z ∷ zs) = λ i. xor_swap x y z i ∷ xor_bytes-swap xs ys zs i

-- only the front of the first list changes
pub xor_bytes-front : (xs ys : List ℕ) (n : ℕ) → n ≡ length ys → n ≤ length xs
    → xor_bytes (take n xs) ys ++ drop n xs ≡ xor_bytes xs ys
xor_bytes-front xs [] zero e h = sym (xor_bytes-nil xs)
xor_bytes-front xs [] (suc n) e h = absurd (omega arith)
xor_bytes-front [] (y ∷ ys) zero e h = absurd (omega arith)
xor_bytes-front (x ∷ xs) (y ∷ ys) zero e h = absurd (omega arith)
xor_bytes-front [] (y ∷ ys) (suc n) e h = absurd (omega arith)
xor_bytes-front (x ∷ xs) (y ∷ ys) (suc n) e h =
    ap (λ r. bit_xor x y ∷ r) (xor_bytes-front xs ys n (omega arith) (omega arith))

-- a write of a sum to one place
pub set-xor : (xs : List ℕ) (i y : ℕ) → i < length xs
    → set xs i (bit_xor (get_or xs i 0) y) ≡ take i xs ++ xor_bytes (drop i xs) (y ∷ [])
set-xor [] i y h = absurd (omega arith)
set-xor (x ∷ xs) zero y h = ap (λ r. bit_xor x y ∷ r) (sym (xor_bytes-nil xs))
set-xor (x ∷ xs) (suc i) y h = ap (λ r. x ∷ r) (set-xor xs i y (omega arith))

-- four writes in a row
pub set_four : (xs : List ℕ) (at a b c d : ℕ) → at + 4 ≤ length xs
    → set (set (set (set xs at a) (suc at) b) (suc (suc at)) c) (suc (suc (suc at))) d ≡ take at xs ++ (a ∷ b ∷ c ∷ d ∷ drop 4 (drop at xs))
set_four [] at a b c d h = absurd (omega arith)
set_four (w ∷ []) zero a b c d h = absurd (omega arith)
set_four (w ∷ x ∷ []) zero a b c d h = absurd (omega arith)
set_four (w ∷ x ∷ y ∷ []) zero a b c d h = absurd (omega arith)
set_four (w ∷ x ∷ y ∷ z ∷ xs) zero a b c d h = refl
set_four (w ∷ xs) (suc at) a b c d h = ap (λ r. w ∷ r) (set_four xs at a b c d (omega arith))

-- to add two lists, one behind the other, is to add the first, and then the second to what is behind it
pub xor_bytes-append : (xs ys zs : List ℕ) (n : ℕ) → n ≡ length ys → n ≤ length xs
    → take n (xor_bytes xs ys) ++ xor_bytes (drop n (xor_bytes xs ys)) zs ≡ xor_bytes xs (ys ++ zs)
xor_bytes-append xs [] zs zero e h = ap (λ r. xor_bytes r zs) (xor_bytes-nil xs)
xor_bytes-append xs [] zs (suc n) e h = absurd (omega arith)
xor_bytes-append [] (y ∷ ys) zs zero e h = absurd (omega arith)
xor_bytes-append (x ∷ xs) (y ∷ ys) zs zero e h = absurd (omega arith)
xor_bytes-append [] (y ∷ ys) zs (suc n) e h = absurd (omega arith)
xor_bytes-append (x ∷ xs) (y ∷ ys) zs (suc n) e h =
    ap (λ r. bit_xor x y ∷ r) (xor_bytes-append xs ys zs n (omega arith) (omega arith))

-- the same, with a list in front that stays
pub xor_at-append : (xs ys zs now : List ℕ) (at n : ℕ) → n ≡ length ys → at + n ≤ length xs
    → now ≡ take at xs ++ xor_bytes (drop at xs) ys
    → take (at + n) now ++ xor_bytes (drop (at + n) now) zs ≡ take at xs ++ xor_bytes (drop at xs) (ys ++ zs)
xor_at-append xs ys zs now zero n e h is =
    let s : 0 + n ≡ n = omega arith in
    (λ i. take (s i) (is i) ++ xor_bytes (drop (s i) (is i)) zs) ∙ xor_bytes-append xs ys zs n e (omega arith)
xor_at-append [] ys zs now (suc at) n e h is = absurd (omega arith)
xor_at-append (x ∷ xs) ys zs now (suc at) n e h is =
    let s : suc at + n ≡ suc (at + n) = omega arith in
    let inner : List ℕ = take at xs ++ xor_bytes (drop at xs) ys in
    ap (λ r. take (suc at + n) r ++ xor_bytes (drop (suc at + n) r) zs) is
    ∙ ap (λ k. take k (x ∷ inner) ++ xor_bytes (drop k (x ∷ inner)) zs) s
    ∙ ap (λ r. x ∷ r) (xor_at-append xs ys zs inner at n e (omega arith) refl)
