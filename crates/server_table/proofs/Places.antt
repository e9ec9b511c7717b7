-- Lists of which one item was changed, or that have one more.
use Rattle.std.proofs.Common.{◌≡◌, ℕ, zero, suc, Bool, true, false, List, [], ◌∷◌, ◌++◌, length, pred, Option, Some, None, refl, sym, ap, subst, ◌∙◌, inl, inr}
use Rattle.std.specs.Prelude.{◌⊎◌, slice_get, unwrap_or, is_some}
use Rattle.std.proofs.lemmas.Bool.{false≢true}
use Rattle.peer_table.specs.Places.{changed_at, earlier, first_place}

-- what two Somes hold
pub some_same : {X : Type 0} {a b : X} → Some a ≡ Some b → a ≡ b
some_same {X = X} {a = a} {b = b} e = ap (λ (o : Option X). unwrap_or o a) e

-- nothing is no Some
pub none_some : {X : Type 0} {a : X} → None ≡ Some a → ⊥
none_some {X = X} e = false≢true (ap (λ (o : Option X). is_some o) e)

-- an item of a changed list is that of the list, or the changed one
pub record WasChanged {X : Type 0} (n i : ℕ) (f : X → X) (xs : List X) (y : X) : Type 0 where
  pub item : X
  pub place : i ≡ n
  pub there : slice_get xs i ≡ Some item
  pub changed : y ≡ f item

pub got_changed : {X : Type 0} (n i : ℕ) (f : X → X) (xs : List X) (y : X) → slice_get (changed_at n f xs) i ≡ Some y →
    WasChanged n i f xs y ⊎ (slice_get xs i ≡ Some y)
got_changed n i f [] y e = inr e
got_changed zero zero f (x ∷ xs) y e = inl (record { item = x; place = refl; there = refl; changed = sym (some_same e) })
got_changed zero (suc i) f (x ∷ xs) y e = inr e
got_changed (suc n) zero f (x ∷ xs) y e = inr e
got_changed (suc n) (suc i) f (x ∷ xs) y e = next (got_changed n i f xs y e)
  where
    next : WasChanged n i f xs y ⊎ (slice_get xs i ≡ Some y) → WasChanged (suc n) (suc i) f (x ∷ xs) y ⊎ (slice_get xs i ≡ Some y)
    next (inl w) = inl (record { item = w.item; place = ap suc w.place; there = w.there; changed = w.changed })
    next (inr e) = inr e

-- what stands at a place of a changed list
pub get_changed : {X : Type 0} (n : ℕ) (f : X → X) (xs : List X) (x : X) → slice_get xs n ≡ Some x → slice_get (changed_at n f xs) n ≡ Some (f x)
get_changed n f [] x e = absurd (none_some e)
get_changed zero f (y ∷ xs) x e = ap (λ z. Some (f z)) (some_same e)
get_changed (suc n) f (y ∷ xs) x e = get_changed n f xs x e

pub get_other : {X : Type 0} (n i : ℕ) (f : X → X) (xs : List X) → (i ≡ n → ⊥) → slice_get (changed_at n f xs) i ≡ slice_get xs i
get_other n i f [] apart = refl
get_other zero zero f (x ∷ xs) apart = absurd (apart refl)
get_other zero (suc i) f (x ∷ xs) apart = refl
get_other (suc n) zero f (x ∷ xs) apart = refl
get_other (suc n) (suc i) f (x ∷ xs) apart = get_other n i f xs (λ e. apart (ap suc e))

-- an item of a list with one more is that of the list, or the new one at its end
pub got_appended : {X : Type 0} (xs : List X) (x : X) (i : ℕ) (y : X) → slice_get (xs ++ x ∷ []) i ≡ Some y → ((i ≡ length xs) × (y ≡ x)) ⊎ (slice_get xs i ≡ Some y)
got_appended [] x zero y e = inl (refl, sym (some_same e))
got_appended [] x (suc i) y e = absurd (none_some e)
got_appended (z ∷ xs) x zero y e = inr e
got_appended (z ∷ xs) x (suc i) y e = next (got_appended xs x i y e)
  where
    next : ((i ≡ length xs) × (y ≡ x)) ⊎ (slice_get xs i ≡ Some y) → ((suc i ≡ suc (length xs)) × (y ≡ x)) ⊎ (slice_get xs i ≡ Some y)
    next (inl w) = inl (ap suc w.0, w.1)
    next (inr e) = inr e

pub get_appended : {X : Type 0} (xs : List X) (x : X) (i : ℕ) (y : X) → slice_get xs i ≡ Some y → slice_get (xs ++ x ∷ []) i ≡ Some y
get_appended [] x i y e = absurd (none_some e)
get_appended (z ∷ xs) x zero y e = e
get_appended (z ∷ xs) x (suc i) y e = get_appended xs x i y e

pub get_last : {X : Type 0} (xs : List X) (x : X) → slice_get (xs ++ x ∷ []) (length xs) ≡ Some x
get_last [] x = refl
get_last (z ∷ xs) x = get_last xs x

-- nothing passes where the first place is none
pub record FirstAt {X : Type 0} (passes : X → Bool) (xs : List X) (n : ℕ) : Type 0 where
  pub item : X
  pub there : slice_get xs n ≡ Some item
  pub passed : passes item ≡ true

first_step : {X : Type 0} (passes : X → Bool) (x : X) (xs : List X) (b : Bool) (o : Option ℕ) (n : ℕ) → passes x ≡ b → earlier b o ≡ Some n →
    ((m : ℕ) → o ≡ Some m → FirstAt passes xs m) → FirstAt passes (x ∷ xs) n
first_step passes x xs true o zero is e ih = record { item = x; there = refl; passed = is }
first_step passes x xs true o (suc n) is e ih = absurd (false≢true (ap (λ (o : Option ℕ). is_zero o) (sym e)))
  where
    is_zero : Option ℕ → Bool
    is_zero (Some zero) = true
    is_zero _ = false
first_step passes x xs false None n is e ih = absurd (none_some e)
first_step passes x xs false (Some m) zero is e ih = absurd (false≢true (ap (λ (o : Option ℕ). is_zero o) e))
  where
    is_zero : Option ℕ → Bool
    is_zero (Some zero) = true
    is_zero _ = false
first_step passes x xs false (Some m) (suc n) is e ih =
    let f = ih m refl in
    let same : m ≡ n = ap pred (some_same e) in
    record { item = f.item; there = subst (λ (k : ℕ). slice_get xs k ≡ Some f.item) same f.there; passed = f.passed }

-- the item at the first place passes
pub first_is : {X : Type 0} (passes : X → Bool) (xs : List X) (n : ℕ) → first_place passes xs ≡ Some n → FirstAt passes xs n
first_is passes [] n e = absurd (none_some e)
first_is passes (x ∷ xs) n e = first_step passes x xs (passes x) (first_place passes xs) n refl e (λ m there. first_is passes xs m there)

none_step : {X : Type 0} (passes : X → Bool) (x : X) (xs : List X) (b : Bool) (o : Option ℕ) → passes x ≡ b → earlier b o ≡ None → (b ≡ false) × (o ≡ None)
none_step passes x xs true o is e = absurd (none_some (sym e))
none_step passes x xs false None is e = (refl, refl)
none_step passes x xs false (Some m) is e = absurd (none_some (sym e))

-- where there is no first place nothing passes
pub none_passes : {X : Type 0} (passes : X → Bool) (xs : List X) → first_place passes xs ≡ None → (i : ℕ) (x : X) → slice_get xs i ≡ Some x → passes x ≡ false
none_passes passes [] e i x there = absurd (none_some there)
none_passes passes (y ∷ xs) e zero x there =
    ap passes (sym (some_same there)) ∙ (none_step passes y xs (passes y) (first_place passes xs) refl e).0
none_passes passes (y ∷ xs) e (suc i) x there =
    none_passes passes xs (none_step passes y xs (passes y) (first_place passes xs) refl e).1 i x there

-- where an item stands in a changed list: changed at its place, or as it was
pub went_changed : {X : Type 0} (n i : ℕ) (f : X → X) (xs : List X) (x : X) → slice_get xs i ≡ Some x →
    ((i ≡ n) × (slice_get (changed_at n f xs) i ≡ Some (f x))) ⊎ (slice_get (changed_at n f xs) i ≡ Some x)
went_changed n i f [] x e = absurd (none_some e)
went_changed zero zero f (y ∷ xs) x e = inl (refl, ap (λ z. Some (f z)) (some_same e))
went_changed zero (suc i) f (y ∷ xs) x e = inr e
went_changed (suc n) zero f (y ∷ xs) x e = inr e
went_changed (suc n) (suc i) f (y ∷ xs) x e = next (went_changed n i f xs x e)
  where
    next : ((i ≡ n) × (slice_get (changed_at n f xs) i ≡ Some (f x))) ⊎ (slice_get (changed_at n f xs) i ≡ Some x) →
        ((suc i ≡ suc n) × (slice_get (changed_at n f xs) i ≡ Some (f x))) ⊎ (slice_get (changed_at n f xs) i ≡ Some x)
    next (inl w) = inl (ap suc w.0, w.1)
    next (inr e) = inr e
