-- Changes of single sessions keep the sessions of a client orderly.
use Rattle.std.proofs.Common.{◌≡◌, ◌≤◌, ℕ, zero, suc, Bool, true, false, List, [], ◌∷◌, length, Some, refl, ap, arith}
use Rattle.std.proofs.lemmas.Bool.{false≢true}
use Rattle.std.specs.Prelude.{◌&&◌, slice_get}
use Rattle.peer_table.specs.KeySessions.{Session, has_keys, is_open}
use Rattle.peer_table.specs.Exchange.{is_open_keyed}
use Rattle.peer_table.specs.Orderly.{IsOrderly, all_before_have_keys, how_many, more_if}
use Rattle.peer_table.specs.Places.{changed_at}

-- a session that has keys keeps them, and one that was not open with keys is not so now
pub record Keeps (f : Session → Session) (s : Session) : Type 0 where
  pub keyed : has_keys s ≡ true → has_keys (f s) ≡ true
  pub few : is_open_keyed (f s) ≡ true → is_open_keyed s ≡ true

one_open : (o h : Bool) → more_if o 0 ≤ suc (more_if (o && h) 0)
one_open true true = omega arith
one_open true false = omega arith
one_open false h = omega arith

next_open : (o h rest : Bool) (m n : ℕ) → (h && rest) ≡ true → (rest ≡ true → m ≤ suc n) → more_if o m ≤ suc (more_if (o && h) n)
next_open true true rest m n k ih = omega (arith, ih k)
next_open true false rest m n k ih = absurd (false≢true k)
next_open false true rest m n k ih = ih k
next_open false false rest m n k ih = absurd (false≢true k)

-- at most one more is open than is open with keys
pub one_more_open : (ss : List Session) → all_before_have_keys ss ≡ true → how_many is_open ss ≤ suc (how_many is_open_keyed ss)
one_more_open [] k = omega arith
one_more_open (s ∷ []) k = one_open s.is_open (has_keys s)
one_more_open (s ∷ t ∷ ss) k =
    next_open s.is_open (has_keys s) (all_before_have_keys (t ∷ ss)) (how_many is_open (t ∷ ss)) (how_many is_open_keyed (t ∷ ss)) k
    (λ rest. one_more_open (t ∷ ss) rest)

-- at most three are open
pub three_open : (ss : List Session) → IsOrderly ss → how_many is_open ss ≤ 3
three_open ss o = omega (arith, one_more_open ss o.keyed, o.few)

-- a change of one session leaves their number
pub changed_length : (n : ℕ) (f : Session → Session) (ss : List Session) → length (changed_at n f ss) ≡ length ss
changed_length n f [] = refl
changed_length zero f (s ∷ ss) = refl
changed_length (suc n) f (s ∷ ss) = ap suc (changed_length n f ss)

-- the parts of a conjunction
pub both : {a b : Bool} → (a && b) ≡ true → (a ≡ true) × (b ≡ true)
both {a = true} {b = b} e = (refl, e)
both {a = false} {b = b} e = grind arith

-- a conjunction of its parts
pub pair : {a b : Bool} → a ≡ true → b ≡ true → (a && b) ≡ true
pair {a = a} {b = b} e h = rw e h

changed_keyed : (n : ℕ) (f : Session → Session) (ss : List Session) → ((s : Session) → slice_get ss n ≡ Some s → Keeps f s) →
    all_before_have_keys ss ≡ true → all_before_have_keys (changed_at n f ss) ≡ true
changed_keyed n f [] keeps k = refl
changed_keyed zero f (s ∷ []) keeps k = refl
changed_keyed (suc n) f (s ∷ []) keeps k = refl
changed_keyed zero f (s ∷ t ∷ ss) keeps k = pair ((keeps s refl).keyed (both k).0) (both k).1
changed_keyed (suc zero) f (s ∷ t ∷ ss) keeps k = pair (both k).0 (changed_keyed zero f (t ∷ ss) keeps (both k).1)
changed_keyed (suc (suc n)) f (s ∷ t ∷ ss) keeps k = pair (both k).0 (changed_keyed (suc n) f (t ∷ ss) keeps (both k).1)

more_at_most : (a b : Bool) (n : ℕ) → (a ≡ true → b ≡ true) → more_if a n ≤ more_if b n
more_at_most true true n e = omega arith
more_at_most true false n e = grind arith
more_at_most false true n e = omega arith
more_at_most false false n e = omega arith

more_with : (a : Bool) (m n : ℕ) → m ≤ n → more_if a m ≤ more_if a n
more_with true m n le = omega (arith, le)
more_with false m n le = le

changed_few : (n : ℕ) (f : Session → Session) (ss : List Session) → ((s : Session) → slice_get ss n ≡ Some s → Keeps f s) →
    how_many is_open_keyed (changed_at n f ss) ≤ how_many is_open_keyed ss
changed_few n f [] keeps = omega arith
changed_few zero f (s ∷ ss) keeps = more_at_most (is_open_keyed (f s)) (is_open_keyed s) (how_many is_open_keyed ss) ((keeps s refl).few)
changed_few (suc n) f (s ∷ ss) keeps = more_with (is_open_keyed s) (how_many is_open_keyed (changed_at n f ss)) (how_many is_open_keyed ss) (changed_few n f ss keeps)

-- a change that keeps the session at its place keeps all orderly
pub changed_orderly : (n : ℕ) (f : Session → Session) (ss : List Session) → ((s : Session) → slice_get ss n ≡ Some s → Keeps f s) →
    IsOrderly ss → IsOrderly (changed_at n f ss)
changed_orderly n f ss keeps o = record {
  begun = omega (arith, changed_length n f ss, o.begun);
  keyed = changed_keyed n f ss keeps o.keyed;
  few = omega (arith, changed_few n f ss keeps, o.few);
}
