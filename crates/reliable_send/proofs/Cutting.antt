-- Bytes cut into pieces.
use Rattle.std.proofs.Common.{◌≡◌, ℕ, zero, suc, ◌-◌, ◌<◌, ◌≤◌, min, List, [], ◌∷◌, ◌++◌, length, take, drop, map, refl, sym, ap, ◌∙◌, arith, length-drop}
use Rattle.std.proofs.lemmas.List.{append_assoc, length-take, take_min, drop_min, take_rest, nil_from_length}
use Rattle.std.proofs.lemmas.List.Elements.{All-nil, All-cons}
use Rattle.std.specs.Prelude.{All}
use Rattle.std.specs.Int.{div_ceil}
use Rattle.reliable_send.specs.Sending.{cut_into, cut, unsent}
use Rattle.reliable_send.specs.declared.pieces.KeptPiece.{KeptPiece}
use Rattle.reliable_send.specs.Sides.{seen}
use Rattle.reliable_send.specs.internal.Sound.{waiting, IsSmall}

-- the pieces are the same for every count that is large enough
cut_enough : (n m : ℕ) (bytes : List ℕ) → length bytes ≤ n → length bytes ≤ m → cut_into n bytes ≡ cut_into m bytes
unfolding cut_into
cut_enough zero zero bytes a b = refl
cut_enough zero (suc m) [] a b = refl
cut_enough zero (suc m) (x ∷ bytes) a b = absurd (omega arith)
cut_enough (suc n) zero [] a b = refl
cut_enough (suc n) zero (x ∷ bytes) a b = absurd (omega arith)
cut_enough (suc n) (suc m) [] a b = refl
cut_enough (suc n) (suc m) (x ∷ bytes) a b =
    let shorter = length-drop 1100 (x ∷ bytes) in
    ap (λ (rest : List (List ℕ)). take 1100 (x ∷ bytes) ∷ rest) (cut_enough n m (drop 1100 (x ∷ bytes)) (omega (arith, shorter)) (omega (arith, shorter)))

-- some bytes are a piece of the first 1,100 of them, and the pieces of the rest
pub cut-cons : (x : ℕ) (bytes : List ℕ) → cut (x ∷ bytes) ≡ take 1100 (x ∷ bytes) ∷ cut (drop 1100 (x ∷ bytes))
unfolding cut_into
cut-cons x bytes =
    let shorter = length-drop 1100 (x ∷ bytes) in
    ap (λ (rest : List (List ℕ)). take 1100 (x ∷ bytes) ∷ rest) (cut_enough (length bytes) (length (drop 1100 (x ∷ bytes))) (drop 1100 (x ∷ bytes)) (omega (arith, shorter)) (omega arith))

pub cut-nil : cut [] ≡ []
unfolding cut_into
cut-nil = refl

pub cut-some : (bytes : List ℕ) → 0 < length bytes → cut bytes ≡ take 1100 bytes ∷ cut (drop 1100 bytes)
cut-some [] some = absurd (omega arith)
cut-some (x ∷ bytes) some = cut-cons x bytes

pub cut-none : (bytes : List ℕ) → length bytes ≡ 0 → cut bytes ≡ []
cut-none bytes none = rw (nil_from_length bytes none) cut-nil

-- ---- how many pieces

up_more : (n : ℕ) → 0 < n → div_ceil n 1100 ≡ suc (div_ceil (n - 1100) 1100)
up_more n some = omega arith

length-cut_into : (n : ℕ) (bytes : List ℕ) → length bytes ≤ n → length (cut_into n bytes) ≡ div_ceil (length bytes) 1100
unfolding cut_into
length-cut_into zero bytes few = rw (nil_from_length bytes (omega arith)) refl
length-cut_into (suc n) [] few = refl
length-cut_into (suc n) (x ∷ bytes) few =
    let shorter = length-drop 1100 (x ∷ bytes) in
    let rest = length-cut_into n (drop 1100 (x ∷ bytes)) (omega (arith, shorter)) in
    ap suc (rest ∙ ap (λ k. div_ceil k 1100) shorter) ∙ sym (up_more (length (x ∷ bytes)) (omega arith))

pub length-cut : (bytes : List ℕ) → div_ceil (length bytes) 1100 ≡ length (cut bytes)
length-cut bytes = sym (length-cut_into (length bytes) bytes (omega arith))

pub few_cuts : (bytes : List ℕ) → length (cut bytes) ≤ length bytes
few_cuts bytes = let e = length-cut bytes in omega (arith, e)

-- ---- the pieces as they are kept at first

-- a piece that was not sent yet
abbrev pub fresh : List ℕ → KeptPiece
fresh b = seen 0 (unsent b)

waiting-cut_into : (n : ℕ) (bytes : List ℕ) → length bytes ≤ n → waiting (map fresh (cut_into n bytes)) ≡ length bytes
unfolding cut_into
waiting-cut_into zero bytes few = omega arith
waiting-cut_into (suc n) [] few = refl
waiting-cut_into (suc n) (x ∷ bytes) few =
    let shorter = length-drop 1100 (x ∷ bytes) in
    let front = length-take 1100 (x ∷ bytes) in
    let rest = waiting-cut_into n (drop 1100 (x ∷ bytes)) (omega (arith, shorter)) in
    omega (arith, shorter, front, rest)

pub waiting-cut : (bytes : List ℕ) → waiting (map fresh (cut bytes)) ≡ length bytes
waiting-cut bytes = waiting-cut_into (length bytes) bytes (omega arith)

small-cut_into : (n : ℕ) (bytes : List ℕ) → All IsSmall (map fresh (cut_into n bytes))
unfolding cut_into
small-cut_into zero bytes = All-nil IsSmall
small-cut_into (suc n) [] = All-nil IsSmall
small-cut_into (suc n) (x ∷ bytes) =
    let front = length-take 1100 (x ∷ bytes) in
    All-cons IsSmall (fresh (take 1100 (x ∷ bytes))) (map fresh (cut_into n (drop 1100 (x ∷ bytes)))) (omega (arith, front)) (small-cut_into n (drop 1100 (x ∷ bytes)))

pub small-cut : (bytes : List ℕ) → All IsSmall (map fresh (cut bytes))
small-cut bytes = small-cut_into (length bytes) bytes

-- ---- a turn of the loop that cuts

front_min : (n : ℕ) (rest : List ℕ) → n ≡ min (length rest) 1100 → take n rest ≡ take 1100 rest
front_min n rest is = let e : n ≡ min 1100 (length rest) = omega arith in rw e (take_min 1100 rest)

back_min : (n : ℕ) (rest : List ℕ) → n ≡ min (length rest) 1100 → drop n rest ≡ drop 1100 rest
back_min n rest is = let e : n ≡ min 1100 (length rest) = omega arith in rw e (drop_min 1100 rest)

pub more_cut : (made after whole : List KeptPiece) (rest front : List ℕ) (piece : KeptPiece) (size : ℕ) → 0 < length rest → size ≡ min (length rest) 1100 → front ≡ take size rest →
    piece ≡ fresh front → after ≡ made ++ piece ∷ [] → made ++ map fresh (cut rest) ≡ whole →
    after ++ map fresh (cut (take (length rest - size) (drop size rest))) ≡ whole
more_cut made after whole rest front piece size some is here kept pushed invariant =
    let left : take (length rest - size) (drop size rest) ≡ drop 1100 rest = take_rest rest size ∙ back_min size rest is in
    let first : piece ≡ fresh (take 1100 rest) = kept ∙ ap fresh (here ∙ front_min size rest is) in
    rw (left, pushed, first, append_assoc) (let e = cut-some rest some in rw e at invariant)

-- the pieces of what is left are one less
pub length-cut-some : (rest : List ℕ) (size : ℕ) → 0 < length rest → size ≡ min (length rest) 1100 → length (cut rest) ≡ suc (length (cut (take (length rest - size) (drop size rest))))
length-cut-some rest size some is =
    let left : take (length rest - size) (drop size rest) ≡ drop 1100 rest = take_rest rest size ∙ back_min size rest is in
    rw left (ap length (cut-some rest some))

-- of fewer bytes there are no more pieces
pub fewer_cuts : (bytes : List ℕ) (most : ℕ) → length bytes ≤ most → length (cut bytes) ≤ div_ceil most 1100
fewer_cuts bytes most few = let e = length-cut bytes in omega (arith, e)
