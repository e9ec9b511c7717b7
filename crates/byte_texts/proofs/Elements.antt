-- The elements of lists that are made of others.
use Rattle.std.proofs.Common.{◌≡◌, ℕ, zero, suc, ◌+◌, ◌≤◌, ◌<◌, ◌⊎◌, inl, inr, Bool, true, false, cond, List, [], ◌∷◌, length, map, Some, None, refl, ap, sym, ◌∙◌, arith}
use Rattle.std.specs.Prelude.{Contains, find, flat_map, slice_index_or}
use Rattle.std.specs.List.{range_with_len}
use Rattle.std.proofs.lemmas.List.Elements.{Contains-append_cases, Contains-append_left, Contains-append_right}

-- an element is the first or one of the others
at_place : {A : Type 0} (x : A) (xs : List A) (y : A) (k : ℕ) → k < length (x ∷ xs) → slice_index_or (x ∷ xs) k y ≡ y → (x ≡ y) ⊎ Contains xs y
at_place x xs y zero below is = inl is
at_place x xs y (suc k) below is = inr (k, omega arith, is)

pub first_or_later : {A : Type 0} (x : A) (xs : List A) (y : A) → Contains (x ∷ xs) y → (x ≡ y) ⊎ Contains xs y
first_or_later x xs y h = at_place x xs y h.0 h.1 h.2

pub is_first : {A : Type 0} (x : A) (xs : List A) (y : A) → x ≡ y → Contains (x ∷ xs) y
is_first x xs y same = (0, omega arith, same)

pub is_later : {A : Type 0} (x : A) (xs : List A) (y : A) → Contains xs y → Contains (x ∷ xs) y
is_later x xs y h = let below = h.1 in (suc h.0, omega arith, h.2)

pub in_none : {A : Type 0} (y : A) → Contains [] y → ⊥
in_none y h = let below = h.1 in omega arith

-- numbers from one on
equal_or_above : (x y : ℕ) → x ≤ y → (x ≡ y) ⊎ (x + 1 ≤ y)
equal_or_above zero zero h = inl refl
equal_or_above zero (suc y) h = inr (omega arith)
equal_or_above (suc x) zero h = absurd (omega arith)
equal_or_above (suc x) (suc y) h = elim (equal_or_above x y (omega arith)) [ inl e ↦ inl (ap suc e) | inr above ↦ inr (omega arith) ]

pub in_range : (a n b : ℕ) → a ≤ b → b < a + n → Contains (range_with_len a n) b
in_range a zero b low high = absurd (omega arith)
in_range a (suc n) b low high =
    elim (equal_or_above a b low) [
      | inl same ↦ is_first a (range_with_len (a + 1) n) b same
      | inr above ↦ is_later a (range_with_len (a + 1) n) b (in_range (a + 1) n b above (omega arith))
    ]

pub of_range : (a n b : ℕ) → Contains (range_with_len a n) b → b < a + n
of_range a zero b h = absurd (in_none b h)
of_range a (suc n) b h =
    elim (first_or_later a (range_with_len (a + 1) n) b h) [ inl same ↦ omega arith | inr later ↦ omega (arith, of_range (a + 1) n b later) ]

-- elements of a mapped list
pub in_mapped : {A B : Type 0} (f : A → B) (xs : List A) (x : A) → Contains xs x → Contains (map f xs) (f x)
in_mapped f [] x h = absurd (in_none x h)
in_mapped f (y ∷ xs) x h =
    elim (first_or_later y xs x h) [
      | inl same ↦ is_first (f y) (map f xs) (f x) (ap f same)
      | inr later ↦ is_later (f y) (map f xs) (f x) (in_mapped f xs x later)
    ]

pub of_mapped : {A B : Type 0} (f : A → B) (xs : List A) (y : B) → Contains (map f xs) y → (x : A) × Contains xs x × (f x ≡ y)
of_mapped f [] y h = absurd (in_none y h)
of_mapped f (x ∷ xs) y h =
    elim (first_or_later (f x) (map f xs) y h) [
      | inl same ↦ (x, is_first x xs x refl, same)
      | inr later ↦ let found = of_mapped f xs y later in (found.0, is_later x xs found.0 found.1, found.2)
    ]

-- elements of the lists of each element, one behind another
pub in_joined : {A B : Type 0} (f : A → List B) (xs : List A) (x : A) (y : B) → Contains xs x → Contains (f x) y → Contains (flat_map f xs) y
in_joined f [] x y h k = absurd (in_none x h)
in_joined f (z ∷ xs) x y h k =
    elim (first_or_later z xs x h) [
      | inl same ↦ Contains-append_left (f z) (flat_map f xs) y (rw same k)
      | inr later ↦ Contains-append_right (f z) (flat_map f xs) y (in_joined f xs x y later k)
    ]

pub of_joined : {A B : Type 0} (f : A → List B) (xs : List A) (y : B) → Contains (flat_map f xs) y → (x : A) × Contains xs x × Contains (f x) y
of_joined f [] y h = absurd (in_none y h)
of_joined f (x ∷ xs) y h =
    elim (Contains-append_cases (f x) (flat_map f xs) y h) [
      | inl first ↦ (x, is_first x xs x refl, first)
      | inr later ↦ let found = of_joined f xs y later in (found.0, is_later x xs found.0 found.1, found.2)
    ]

-- what is found is an element that passes
found_case : {A : Type 0} (p : A → Bool) (b : Bool) (x : A) (xs : List A) (y : A) → p x ≡ b → (find p xs ≡ Some y → (p y ≡ true) × Contains xs y) →
    cond b (Some x) (find p xs) ≡ Some y → (p y ≡ true) × Contains (x ∷ xs) y
found_case p true x xs y passes rest found =
    let same : x ≡ y = cc in (ap p (sym same) ∙ passes, is_first x xs y same)
found_case p false x xs y passes rest found = let later = rest found in (later.0, is_later x xs y later.1)

pub found_passes : {A : Type 0} (p : A → Bool) (xs : List A) (y : A) → find p xs ≡ Some y → (p y ≡ true) × Contains xs y
found_passes p [] y found = absurd cc
found_passes p (x ∷ xs) y found = found_case p (p x) x xs y refl (found_passes p xs y) found

-- where nothing is found no element passes
none_case : {A : Type 0} (p : A → Bool) (b : Bool) (x : A) (xs : List A) (y : A) → p x ≡ b → (find p xs ≡ None → Contains xs y → p y ≡ true → ⊥) →
    cond b (Some x) (find p xs) ≡ None → (x ≡ y) ⊎ Contains xs y → p y ≡ true → ⊥
none_case p true x xs y passes rest none place good = cc
none_case p false x xs y passes rest none (inl same) good =
    let other : false ≡ true = sym passes ∙ ap p same ∙ good in cc
none_case p false x xs y passes rest none (inr later) good = rest none later good

pub none_passes : {A : Type 0} (p : A → Bool) (xs : List A) → find p xs ≡ None → (y : A) → Contains xs y → p y ≡ true → ⊥
none_passes p [] none y h good = in_none y h
none_passes p (x ∷ xs) none y h good =
    none_case p (p x) x xs y refl (λ n c g. none_passes p xs n y c g) none (first_or_later x xs y h) good
