-- Of orderly key sessions the live ones have key ids that differ, so that the one with a key id is found.
use Rattle.std.proofs.Common.{◌≡◌, ◌≢◌, ◌≤◌, ◌<◌, ◌+◌, ℕ, zero, suc, ◌==◌, Bool, true, false, List, [], ◌∷◌, length, take, cond, Option, Some, None, refl, sym, ap, ◌∙◌, arith, inl, inr}
use Rattle.std.specs.Prelude.{◌||◌, ◌⊎◌, slice_get}
use Rattle.std.specs.List.{find, list_any}
use Rattle.std.proofs.lemmas.Bool.{and_parts, eq-eqb, eqb-false, eqb-true, false≢true, ne_eqb}
use Rattle.vpn_base.specs.declared.names.Timers.{Timers}
use Rattle.peer_table.specs.KeySessions.{Session, has_keys, in_transition, keyed_before, kid_of, live_with, newest, newest_usable, retiring, usable, usable_of}
use Rattle.peer_table.specs.Orderly.{IsOrderly, all_before_have_keys}
use Rattle.peer_table.specs.Places.{last_place, later}
use Rattle.control_laws.proofs.Actions.{none_some, some_same}

-- whether a number is one of these
abbrev pub is_one_of : ℕ → List ℕ → Bool
is_one_of k numbers = list_any (λ n. n == k) numbers

-- ---- what is found

or_left : (a b : Bool) → a ≡ true → (a || b) ≡ true
or_left true b e = refl
or_left false b e = absurd (false≢true e)

or_right : (a b : Bool) → b ≡ true → (a || b) ≡ true
or_right true b e = refl
or_right false b e = e

or_either : (a b : Bool) → (a || b) ≡ true → (a ≡ true) ⊎ (b ≡ true)
or_either true b e = inl refl
or_either false b e = inr e

-- what is found passes, and is one of them
pub record IsFoundIn (passes : ℕ → Bool) (xs : List ℕ) (k : ℕ) : Type 0 where
  pub passed : passes k ≡ true
  pub among : is_one_of k xs ≡ true

found_at : (passes : ℕ → Bool) (x : ℕ) (xs : List ℕ) (k : ℕ) (b : Bool) → passes x ≡ b → cond b (Some x) (find passes xs) ≡ Some k →
    (find passes xs ≡ Some k → IsFoundIn passes xs k) → IsFoundIn passes (x ∷ xs) k
found_at passes x xs k true is e behind = record {
  passed = ap passes (sym (some_same e)) ∙ is;
  among = or_left (x == k) (is_one_of k xs) (eq-eqb x k (some_same e));
}
found_at passes x xs k false is e behind = let f = behind e in record { passed = f.passed; among = or_right (x == k) (is_one_of k xs) f.among }

pub found_in : (passes : ℕ → Bool) (xs : List ℕ) (k : ℕ) → find passes xs ≡ Some k → IsFoundIn passes xs k
found_in passes [] k e = absurd (none_some e)
found_in passes (x ∷ xs) k e = found_at passes x xs k (passes x) refl e (λ rest. found_in passes xs k rest)

-- where nothing is found none of them passes
fails_at : (passes : ℕ → Bool) (x : ℕ) (xs : List ℕ) (k : ℕ) (b : Bool) → passes x ≡ b → cond b (Some x) (find passes xs) ≡ None →
    (x ≡ k) ⊎ (is_one_of k xs ≡ true) → (find passes xs ≡ None → is_one_of k xs ≡ true → passes k ≡ false) → passes k ≡ false
fails_at passes x xs k true is e at behind = absurd (none_some (sym e))
fails_at passes x xs k false is e (inl same) behind = ap passes (sym same) ∙ is
fails_at passes x xs k false is e (inr more) behind = behind e more

same_or : (x k : ℕ) (rest : Bool) → ((x == k) ≡ true) ⊎ (rest ≡ true) → (x ≡ k) ⊎ (rest ≡ true)
same_or x k rest (inl e) = inl (eqb-true x k e)
same_or x k rest (inr e) = inr e

pub none_found : (passes : ℕ → Bool) (xs : List ℕ) (k : ℕ) → find passes xs ≡ None → is_one_of k xs ≡ true → passes k ≡ false
none_found passes [] k e is = absurd (false≢true is)
none_found passes (x ∷ xs) k e is =
    fails_at passes x xs k (passes x) refl e (same_or x k (is_one_of k xs) (or_either (x == k) (is_one_of k xs) is)) (λ rest more. none_found passes xs k rest more)

-- where none of them passes nothing is found, and where one passes alone it is found
find_none : (passes : ℕ → Bool) (xs : List ℕ) (o : Option ℕ) → find passes xs ≡ o → ((k : ℕ) → is_one_of k xs ≡ true → passes k ≡ false) → o ≡ None
find_none passes xs None e fails = refl
find_none passes xs (Some k) e fails = let f = found_in passes xs k e in absurd (false≢true (sym (fails k f.among) ∙ f.passed))

find_alone : (passes : ℕ → Bool) (xs : List ℕ) (k : ℕ) (o : Option ℕ) → find passes xs ≡ o → is_one_of k xs ≡ true → passes k ≡ true →
    ((m : ℕ) → is_one_of m xs ≡ true → passes m ≡ true → m ≡ k) → o ≡ Some k
find_alone passes xs k None e among is alone = absurd (false≢true (sym (none_found passes xs k e among) ∙ is))
find_alone passes xs k (Some m) e among is alone = let f = found_in passes xs m e in ap (λ i. Some i) (alone m f.among f.passed)

-- ---- where the live sessions stand

-- a place among the last of so many, at most so far from the end
pub record IsNear (k count most : ℕ) : Type 0 where
  pub within : k < count
  pub near : count ≤ k + most

later_keyed : (b : Bool) (o : Option ℕ) → b ≡ true → later b o ≡ None → ⊥
later_keyed true None is e = none_some (sym e)
later_keyed true (Some n) is e = none_some (sym e)
later_keyed false o is e = false≢true is

keyed_near : (s t : Session) (rest : List Session) (n : ℕ) (o : Option ℕ) → last_place has_keys (t ∷ rest) ≡ o → has_keys s ≡ true → all_before_have_keys (t ∷ rest) ≡ true →
    later (has_keys s) o ≡ Some n → ((m : ℕ) → o ≡ Some m → IsNear m (length (t ∷ rest)) 2) → IsNear n (length (s ∷ t ∷ rest)) 2
keyed_near s t rest n (Some m) is keys all e behind =
    let f = behind m refl in
    let within = f.within in
    let near = f.near in
    let same = later_some (has_keys s) m n e in
    record { within = omega (arith, within, same); near = omega (arith, near, same) }
  where
    later_some : (b : Bool) (m n : ℕ) → later b (Some m) ≡ Some n → suc m ≡ n
    later_some true m n e = some_same e
    later_some false m n e = some_same e
keyed_near s t [] n None is keys all e behind =
    let same : zero ≡ n = some_same (ap (λ b. later b None) (sym keys) ∙ e) in
    record { within = omega (arith, same); near = omega (arith, same) }
keyed_near s t (u ∷ rest) n None is keys all e behind =
    absurd (later_keyed (has_keys t) (last_place has_keys (u ∷ rest)) (and_parts (has_keys t) (all_before_have_keys (u ∷ rest)) all).0 is)

one_near : (b : Bool) (n : ℕ) → later b None ≡ Some n → IsNear n 1 2
one_near true n e = let same : zero ≡ n = some_same e in record { within = omega (arith, same); near = omega (arith, same) }
one_near false n e = absurd (none_some e)

pub last_near : (all : List Session) (n : ℕ) → all_before_have_keys all ≡ true → last_place has_keys all ≡ Some n → IsNear n (length all) 2
last_near [] n keys e = absurd (none_some e)
last_near (s ∷ []) n keys e = one_near (has_keys s) n e
last_near (s ∷ t ∷ rest) n keys e =
    let p = and_parts (has_keys s) (all_before_have_keys (t ∷ rest)) keys in
    keyed_near s t rest n (last_place has_keys (t ∷ rest)) refl p.0 p.1 e (λ m at. last_near (t ∷ rest) m p.1 at)

-- of those before a place that have keys the last stands right before it
front_near : (s t : Session) (rest : List Session) (n m : ℕ) (o : Option ℕ) → last_place has_keys (take n (t ∷ rest)) ≡ o → has_keys s ≡ true → all_before_have_keys (t ∷ rest) ≡ true →
    suc n < length (s ∷ t ∷ rest) → later (has_keys s) o ≡ Some m → ((i : ℕ) → o ≡ Some i → IsNear i n 1) → IsNear m (suc n) 1
front_near s t rest n m (Some i) is keys all less e behind =
    let f = behind i refl in
    let within = f.within in
    let near = f.near in
    let same = later_some (has_keys s) i m e in
    record { within = omega (arith, within, same); near = omega (arith, near, same) }
  where
    later_some : (b : Bool) (m n : ℕ) → later b (Some m) ≡ Some n → suc m ≡ n
    later_some true m n e = some_same e
    later_some false m n e = some_same e
front_near s t rest zero m None is keys all less e behind =
    let same : zero ≡ m = some_same (ap (λ b. later b None) (sym keys) ∙ e) in
    record { within = omega (arith, same); near = omega (arith, same) }
front_near s t [] (suc n) m None is keys all less e behind = absurd (omega (arith, less))
front_near s t (u ∷ rest) (suc n) m None is keys all less e behind =
    absurd (later_keyed (has_keys t) (last_place has_keys (take n (u ∷ rest))) (and_parts (has_keys t) (all_before_have_keys (u ∷ rest)) all).0 is)

pub before_near : (all : List Session) (n m : ℕ) → all_before_have_keys all ≡ true → n < length all → last_place has_keys (take n all) ≡ Some m → IsNear m n 1
before_near all zero m keys less e = absurd (none_some e)
before_near [] (suc n) m keys less e = absurd (none_some e)
before_near (s ∷ []) (suc n) m keys less e = absurd (omega (arith, less))
before_near (s ∷ t ∷ rest) (suc n) m keys less e =
    let p = and_parts (has_keys s) (all_before_have_keys (t ∷ rest)) keys in
    front_near s t rest n m (last_place has_keys (take n (t ∷ rest))) refl p.0 p.1 less e
    (λ i at. before_near (t ∷ rest) n i p.1 (omega (arith, less)) at)

usable_one : (count k n : ℕ) → is_one_of k (n ∷ []) ≡ true → IsNear n count 2 → IsNear k count 3
usable_one count k n is f = go (same_or n k false (or_either (n == k) false is))
  where
    go : (n ≡ k) ⊎ (false ≡ true) → IsNear k count 3
    go (inl same) = let within = f.within in let near = f.near in record { within = omega (arith, same, within); near = omega (arith, same, near) }
    go (inr e) = absurd (false≢true e)

usable_two : (count k n m : ℕ) → is_one_of k (m ∷ []) ≡ true → IsNear n count 2 → IsNear m n 1 → IsNear k count 3
usable_two count k n m is f g = go (same_or m k false (or_either (m == k) false is))
  where
    go : (m ≡ k) ⊎ (false ≡ true) → IsNear k count 3
    go (inl same) =
        let within = f.within in
        let near = f.near in
        let before = g.within in
        let close = g.near in
        record { within = omega (arith, same, within, before); near = omega (arith, same, near, close) }
    go (inr e) = absurd (false≢true e)

-- one of the usable sessions is near the end
usable_near : (count k : ℕ) (last older : Option ℕ) (still : Bool) → is_one_of k (usable_of last older still) ≡ true → ((n : ℕ) → last ≡ Some n → IsNear n count 2) →
    ((n m : ℕ) → last ≡ Some n → older ≡ Some m → IsNear m n 1) → IsNear k count 3
usable_near count k None older still is first second = absurd (false≢true is)
usable_near count k (Some n) (Some m) true is first second = go (same_or n k (is_one_of k (m ∷ [])) (or_either (n == k) (is_one_of k (m ∷ [])) is))
  where
    go : (n ≡ k) ⊎ (is_one_of k (m ∷ []) ≡ true) → IsNear k count 3
    go (inl same) = usable_one count k n (or_left (n == k) false (eq-eqb n k same)) (first n refl)
    go (inr more) = usable_two count k n m more (first n refl) (second n m refl refl)
usable_near count k (Some n) (Some m) false is first second = usable_one count k n is (first n refl)
usable_near count k (Some n) None still is first second = usable_one count k n is (first n refl)

live_near : (timers : Timers) (now : ℕ) (all : List Session) (k : ℕ) → IsOrderly all → is_one_of k (newest all ∷ usable timers now all) ≡ true → IsNear k (length all) 3
unfolding usable newest_usable retiring
live_near timers now all k orderly is =
    go (same_or (newest all) k (is_one_of k (usable timers now all)) (or_either (newest all == k) (is_one_of k (usable timers now all)) is))
  where
    go : (newest all ≡ k) ⊎ (is_one_of k (usable timers now all) ≡ true) → IsNear k (length all) 3
    go (inl same) = let begun = orderly.begun in record { within = omega (arith, same, begun); near = omega (arith, same, begun) }
    go (inr more) =
        usable_near (length all) k (last_place has_keys all) (keyed_before all (last_place has_keys all)) (in_transition timers now all) more
        (λ n at. last_near all n orderly.keyed at)
        (λ n m last older. before_near all n m orderly.keyed (last_near all n orderly.keyed last).within
        (ap (keyed_before all) (sym last) ∙ older))

-- key ids of near numbers differ
kid_apart : (i j : ℕ) → i ≤ j + 2 → j ≤ i + 2 → kid_of i ≡ kid_of j → i ≡ j
kid_apart zero zero a b e = refl
kid_apart zero (suc j) a b e = absurd (omega (arith, e))
kid_apart (suc i) zero a b e = absurd (omega (arith, e))
kid_apart (suc i) (suc j) a b e = omega (arith, a, b, e)

-- the live session with a key id is found
pub live_found : (timers : Timers) (now : ℕ) (all : List Session) (kid k : ℕ) → IsOrderly all → is_one_of k (newest all ∷ usable timers now all) ≡ true → kid ≡ kid_of k →
    live_with timers now all kid ≡ Some k
unfolding live_with
live_found timers now all kid k orderly is same =
    find_alone (λ n. kid_of n == kid) (newest all ∷ usable timers now all) k (live_with timers now all kid) refl is (eq-eqb (kid_of k) kid (sym same))
    (λ m among passes.
    let a = live_near timers now all k orderly is in
    let b = live_near timers now all m orderly among in
    let a_within = a.within in
    let a_near = a.near in
    let b_within = b.within in
    let b_near = b.near in
    kid_apart m k (omega (arith, b_within, a_near)) (omega (arith, a_within, b_near)) (eqb-true (kid_of m) kid passes ∙ same))

-- where no live session has a key id none is found
pub live_none : (timers : Timers) (now : ℕ) (all : List Session) (kid : ℕ) → ((k : ℕ) → is_one_of k (newest all ∷ usable timers now all) ≡ true → kid ≢ kid_of k) →
    live_with timers now all kid ≡ None
unfolding live_with
live_none timers now all kid fails =
    find_none (λ n. kid_of n == kid) (newest all ∷ usable timers now all) (live_with timers now all kid) refl
    (λ k among. ne_eqb (kid_of k) kid (λ e. fails k among (sym e)))

-- what is found is live and has the key id
pub found_live : (timers : Timers) (now : ℕ) (all : List Session) (kid k : ℕ) → live_with timers now all kid ≡ Some k →
    (is_one_of k (newest all ∷ usable timers now all) ≡ true) × (kid ≡ kid_of k)
unfolding live_with
found_live timers now all kid k found =
    let f = found_in (λ n. kid_of n == kid) (newest all ∷ usable timers now all) k found in
    (f.among, sym (eqb-true (kid_of k) kid f.passed))

-- where none is found no live session has the key id
pub none_live : (timers : Timers) (now : ℕ) (all : List Session) (kid : ℕ) → live_with timers now all kid ≡ None →
    (k : ℕ) → is_one_of k (newest all ∷ usable timers now all) ≡ true → kid ≢ kid_of k
unfolding live_with
none_live timers now all kid none k among =
    λ same. eqb-false (kid_of k) kid (none_found (λ n. kid_of n == kid) (newest all ∷ usable timers now all) k none among) (sym same)

-- a session stands at each place below their number
pub record IsThere (all : List Session) (k : ℕ) : Type 0 where
  pub session : Session
  pub there : slice_get all k ≡ Some session

pub there_below : (all : List Session) (k : ℕ) → k < length all → IsThere all k
there_below [] k less = absurd (omega (arith, less))
there_below (s ∷ all) zero less = record { session = s; there = refl }
there_below (s ∷ all) (suc k) less = let rest = there_below all k (omega (arith, less)) in record { session = rest.session; there = rest.there }

pub live_there : (timers : Timers) (now : ℕ) (all : List Session) (k : ℕ) → IsOrderly all → is_one_of k (newest all ∷ usable timers now all) ≡ true → IsThere all k
live_there timers now all k orderly is = there_below all k (live_near timers now all k orderly is).within
