-- Effects that are added one after another.
use Rattle.std.proofs.Common.{◌≡◌, ℕ, zero, suc, ◌+◌, List, [], ◌∷◌, ◌++◌, drop, map, slice_get, Some, ap, sym, ◌∙◌, arith}
use Rattle.std.proofs.lemmas.List.{append_assoc}

-- two of them
pub both_more : {A : Type 0} (before between after : List A) (first second a b : A) → between ≡ before ++ first ∷ [] → after ≡ between ++ second ∷ []
    → first ≡ a → second ≡ b → after ≡ before ++ a ∷ b ∷ []
both_more {A} before between after first second a b one two is_a is_b =
    two
    ∙ ap (λ (l : List A). l ++ second ∷ []) one
    ∙ append_assoc before (first ∷ []) (second ∷ [])
    ∙ ap (λ (x : A). before ++ x ∷ second ∷ []) is_a
    ∙ ap (λ (x : A). before ++ a ∷ x ∷ []) is_b

-- the items from a place on
drop_suc : {A : Type 0} (xs : List A) (i : ℕ) (x : A) → slice_get xs i ≡ Some x → drop i xs ≡ x ∷ drop (suc i) xs
drop_suc [] i x is = cc
drop_suc (y ∷ ys) zero x is = cc
drop_suc (y ∷ ys) (suc i) x is = drop_suc ys i x is

drop_item : {A : Type 0} (xs : List A) (i : ℕ) (x : A) → slice_get xs i ≡ Some x → drop i xs ≡ x ∷ drop (i + 1) xs
drop_item {A} xs i x is = let e : suc i ≡ i + 1 = omega arith in drop_suc xs i x is ∙ ap (λ (n : ℕ). x ∷ drop n xs) e

-- what is added for an item stands in front of what the items behind it will add
pub item_more : {A B : Type 0} (f : A → B) (before after : List B) (xs : List A) (i : ℕ) (x : A) → slice_get xs i ≡ Some x
    → after ≡ before ++ f x ∷ [] → after ++ map f (drop (i + 1) xs) ≡ before ++ map f (drop i xs)
item_more {A} {B} f before after xs i x there added =
    let rest = map f (drop (i + 1) xs) in
    ap (λ (l : List B). l ++ rest) added
    ∙ append_assoc before (f x ∷ []) rest
    ∙ sym (ap (λ (l : List A). before ++ map f l) (drop_item xs i x there))
