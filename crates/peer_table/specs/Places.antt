-- Lists in which a number is a place, counted from 0.
use Rattle.std.specs.Prelude.{ℕ, zero, suc, Bool, true, false, List, [], ◌∷◌, Option, Some, None}

-- the first place, by whether the first item passes and by the first place among those behind it
abbrev pub earlier : Bool → Option ℕ → Option ℕ
earlier true rest = Some 0
earlier false None = None
earlier false (Some n) = Some (suc n)

-- the first place whose item passes
abbrev pub first_place : {X : Type 0} → (X → Bool) → List X → Option ℕ
first_place passes [] = None
first_place passes (x ∷ xs) = earlier (passes x) (first_place passes xs)

-- the last place, by whether the first item passes and by the last place among those behind it
abbrev pub later : Bool → Option ℕ → Option ℕ
later here (Some n) = Some (suc n)
later true None = Some 0
later false None = None

-- the last place whose item passes
abbrev pub last_place : {X : Type 0} → (X → Bool) → List X → Option ℕ
last_place passes [] = None
last_place passes (x ∷ xs) = later (passes x) (last_place passes xs)

-- a place before others, where its item passes
abbrev pub before_if : Bool → ℕ → List ℕ → List ℕ
before_if true n places = n ∷ places
before_if false n places = places

-- each place whose item passes, in order, where the first item stands at this place
abbrev pub places_from : {X : Type 0} → (X → Bool) → ℕ → List X → List ℕ
places_from passes n [] = []
places_from passes n (x ∷ xs) = before_if (passes x) n (places_from passes (suc n) xs)

-- the list with the item at a place changed, and as it was where there is no such place
abbrev pub changed_at : {X : Type 0} → ℕ → (X → X) → List X → List X
changed_at n change [] = []
changed_at zero change (x ∷ xs) = change x ∷ xs
changed_at (suc n) change (x ∷ xs) = x ∷ changed_at n change xs
