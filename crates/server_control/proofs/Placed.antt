-- One client more, behind all others.
use Rattle.std.proofs.Common.{◌≡◌, ℕ, suc, ◌+◌, ◌<◌, ◌≤◌, ◌==◌, Bool, true, false, List, [], ◌∷◌, ◌++◌, length, slice_get, map, Some, None, refl, sym, ap, subst, ◌∙◌, arith}
use Rattle.std.specs.Prelude.{◌&&◌, filter_map, nat_le}
use Rattle.std.specs.List.{AllByRecursion, cons_option}
use Rattle.std.proofs.lemmas.Bool.{false≢true}
use Rattle.std.proofs.lemmas.Grind.{common_steps}
use Rattle.client_table.specs.declared.key.Key.{Key}
use Rattle.client_table.specs.Changes as table
use Rattle.client_table.specs.Entries.{Entry, entries}
use Rattle.client_table.specs.Sound.{rise_from}
use Rattle.peer_table.specs.Places.{changed_at}
use Rattle.server_table.specs.Lookups.{address_in}
use Rattle.server_table.specs.Table.{Client}
use Rattle.server_state.specs.Standing.{FirstStands, StandFrom}

pub changed_last : {X : Type 0} (f : X → X) (xs : List X) (x : X) → changed_at (length xs) f (xs ++ x ∷ []) ≡ xs ++ f x ∷ []
changed_last f [] x = refl
changed_last f (y ∷ xs) x = ap (λ ys. y ∷ ys) (changed_last f xs x)

pub last_at : {X : Type 0} (xs : List X) (x : X) → slice_get (xs ++ x ∷ []) (length xs) ≡ Some x
last_at [] x = refl
last_at (y ∷ xs) x = last_at xs x

pub length_last : {X : Type 0} (xs : List X) (x : X) → length (xs ++ x ∷ []) ≡ length xs + 1
length_last [] x = refl
length_last (y ∷ xs) x = let ih = length_last xs x in omega (arith, ih)

pub taken_last : (xs : List Client) (x : Client) → address_in x ≡ None → filter_map address_in (xs ++ x ∷ []) ≡ filter_map address_in xs
taken_last [] x none = ap (λ o. cons_option o []) none
taken_last (y ∷ xs) x none = ap (cons_option (address_in y)) (taken_last xs x none)

pub all_last : {X : Type 0} (P Q : X → Type 0) (xs : List X) (x : X) → ((x : X) → P x → Q x) → AllByRecursion P xs → Q x → AllByRecursion Q (xs ++ x ∷ [])
all_last P Q [] x into all last = (last, tt)
all_last P Q (y ∷ xs) x into all last = (into y all.0, all_last P Q xs x into all.1 last)

pub map_none : {X Y : Type 0} (f : X → Y) (xs : List X) → [] ≡ map f xs → xs ≡ []
map_none f [] is = refl
map_none f (x ∷ xs) is = absurd (false≢true (ap is_there is))
  where
    is_there : {Z : Type 0} → List Z → Bool
    is_there [] = false
    is_there (z ∷ zs) = true

module _ {E : Type 0} (IsOf : E → ℕ → Client → Type 0) (e : E) (x : Client) (here : x.is_here ≡ true) where
  more_step : (n m : ℕ) (y : Client) (clients : List Client) (es : List E) (b : Bool)
      → FirstStands IsOf (λ es. StandFrom IsOf es (suc n) clients) n y es b
      → ((es : List E) → StandFrom IsOf es (suc n) clients → StandFrom IsOf (es ++ e ∷ []) (suc n) (clients ++ x ∷ []))
      → FirstStands IsOf (λ es. StandFrom IsOf es (suc n) (clients ++ x ∷ [])) n y (es ++ e ∷ []) b
  more_step n m y clients [] true h ih = absurd h
  more_step n m y clients (d ∷ es) true h ih = (h.0, ih es h.1)
  more_step n m y clients es false h ih = ih es h

  -- a client that is here stands behind all others
  pub stand_more : (clients : List Client) (es : List E) (n m : ℕ) → n + length clients ≡ m → StandFrom IsOf es n clients → IsOf e m x
      → StandFrom IsOf (es ++ e ∷ []) n (clients ++ x ∷ [])
  stand_more [] es n m is h of =
      let same : m ≡ n = omega (arith, is) in
      subst (λ es. StandFrom IsOf (es ++ e ∷ []) n (x ∷ [])) (sym h)
      (subst (λ b. FirstStands IsOf (λ others. StandFrom IsOf others (suc n) []) n x (e ∷ []) b) (sym here) (subst (λ k. IsOf e k x) same of, refl))
  stand_more (y ∷ clients) es n m is h of = more_step n m y clients es y.is_here h (λ es h. stand_more clients es (suc n) m (omega (arith, is)) h of)

-- ---- the place of the last

both_true : (a b : Bool) → (a && b) ≡ true → (a ≡ true) × (b ≡ true)
both_true true b is = (refl, is)
both_true false b is = absurd (false≢true is)

not_more : (a b : ℕ) → nat_le a b ≡ true → a ≤ b
not_more a b is = grind (arith, common_steps)

is_apart : (k m : ℕ) (b : Bool) → k < m → (k == m) ≡ b → b ≡ false
is_apart k m true less is = absurd (grind (arith, common_steps))
is_apart k m false less is = refl

rise_ends : (least end : ℕ) (keys : List Key) → rise_from least end keys ≡ true → least ≤ end
rise_ends least end [] is = not_more least end is
rise_ends least end (k ∷ keys) is =
    let both = both_true _ _ is in
    let low = not_more least k.number.0 both.0 in
    let high = rise_ends (k.number.0 + 1) end keys both.1 in
    omega (arith, low, high)

-- the number that is given next is that of the client that stands last
pub last_place : {V : Type 0} (least end : ℕ) (keys : List Key) (values : List V) (e : Entry V) → rise_from least end keys ≡ true → e.key.number.0 ≡ end
    → table.place_of end (entries keys values ++ e ∷ []) ≡ Some (length (entries keys values))
last_place least end [] values e is num = ap (λ b. table.earlier b None) (same_number e.key.number.0 num)
  where
    same_number : (k : ℕ) → k ≡ end → (k == end) ≡ true
    same_number k same = grind (arith, common_steps)
last_place least end (k ∷ keys) [] e is num = ap (λ b. table.earlier b None) (same_number e.key.number.0 num)
  where
    same_number : (k : ℕ) → k ≡ end → (k == end) ≡ true
    same_number k same = grind (arith, common_steps)
last_place least end (k ∷ keys) (v ∷ values) e is num =
    let both : (nat_le least k.number.0 ≡ true) × (rise_from (k.number.0 + 1) end keys ≡ true) = both_true _ _ is in
    let high : k.number.0 + 1 ≤ end = rise_ends (k.number.0 + 1) end keys both.1 in
    ap (λ b. table.earlier b (table.place_of end (entries keys values ++ e ∷ []))) (is_apart k.number.0 end (k.number.0 == end) (omega (arith, high)) refl)
    ∙ ap (table.earlier false) (last_place (k.number.0 + 1) end keys values e both.1 num)
