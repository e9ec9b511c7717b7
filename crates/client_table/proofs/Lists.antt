-- Lists of which one item was changed or taken out.
use Rattle.std.proofs.Common.{◌≡◌, ℕ, zero, suc, Bool, true, false, cond, List, [], ◌∷◌, find, slice_set, ◌<◌, length, Option, Some, None, IfSome, refl, ap, arith}
use Rattle.std.proofs.Math.ListN.{get_or}
use Rattle.std.specs.List.{remove}
use Rattle.client_table.specs.Changes.{changed_at, earlier, item_at, place_where, without_at}

-- writing the changed item at its place is to change it there
pub set_is : {X : Type 0} (f : X → X) (xs : List X) (i : ℕ) (x : X) → x ≡ get_or xs i x → slice_set xs i (f x) ≡ changed_at i f xs
set_is f [] i x is = refl
set_is f (y ∷ xs) zero x is = ap (λ z. f z ∷ xs) is
set_is f (y ∷ xs) (suc i) x is = ap (λ ys. y ∷ ys) (set_is f xs i x is)

-- taking out at a place
pub remove_is : {X : Type 0} (xs : List X) (i : ℕ) → remove xs i ≡ without_at i xs
remove_is [] zero = refl
remove_is [] (suc i) = refl
remove_is (x ∷ xs) zero = refl
remove_is (x ∷ xs) (suc i) = ap (λ ys. x ∷ ys) (remove_is xs i)

-- the item at the first place is the first that passes
pub at_first : {X : Type 0} (passes : X → Bool) (xs : List X) → item_at xs (place_where passes xs) ≡ find passes xs
at_first passes [] = refl
at_first passes (x ∷ xs) = step (passes x) (place_where passes xs) (at_first passes xs)
  where
    step : (b : Bool) (o : Option ℕ) → item_at xs o ≡ find passes xs → item_at (x ∷ xs) (earlier b o) ≡ cond b (Some x) (find passes xs)
    step true o e = refl
    step false None e = e
    step false (Some i) e = e

-- the first place lies within
pub first_within : {X : Type 0} (passes : X → Bool) (xs : List X) → IfSome (place_where passes xs) (λ i. i < length xs)
first_within passes [] = tt
first_within passes (x ∷ xs) = step (passes x) (place_where passes xs) (first_within passes xs)
  where
    step : (b : Bool) (o : Option ℕ) → IfSome o (λ i. i < length xs) → IfSome (earlier b o) (λ i. i < length (x ∷ xs))
    step true o e = omega arith
    step false None e = tt
    step false (Some i) e = omega (arith, e)

pub length_changed : {X : Type 0} (i : ℕ) (f : X → X) (xs : List X) → length (changed_at i f xs) ≡ length xs
length_changed i f [] = refl
length_changed zero f (x ∷ xs) = refl
length_changed (suc i) f (x ∷ xs) = ap suc (length_changed i f xs)

pub length_without : {X Y : Type 0} (i : ℕ) (xs : List X) (ys : List Y) → length xs ≡ length ys → length (without_at i xs) ≡ length (without_at i ys)
length_without i [] [] same = refl
length_without i [] (y ∷ ys) same = absurd (omega (arith, same))
length_without i (x ∷ xs) [] same = absurd (omega (arith, same))
length_without zero (x ∷ xs) (y ∷ ys) same = omega (arith, same)
length_without (suc i) (x ∷ xs) (y ∷ ys) same = ap suc (length_without i xs ys (omega (arith, same)))
