-- Keys for one session more, and the closing of the one that is too many, keep the sessions of a client orderly.
use Rattle.std.proofs.Common.{◌≡◌, ◌≤◌, ℕ, zero, suc, ◌+◌, Bool, true, false, List, [], ◌∷◌, length, get_or, Option, Some, None, refl, sym, ap, subst, arith}
use Rattle.peer_table.specs.KeySessions.{Session, has_keys}
use Rattle.peer_table.specs.Exchange.{is_open_keyed, oldest_of}
use Rattle.peer_table.specs.Orderly.{IsOrderly, all_before_have_keys, how_many, more_if}
use Rattle.peer_table.specs.Places.{before_if, changed_at, places_from}
use Rattle.peer_table.specs.KeySessions.{closed}
use Rattle.peer_table.proofs.Order.{both, changed_length, pair}

-- ---- what the places of open sessions with keys tell

before_length : (b : Bool) (k : ℕ) (places : List ℕ) (n : ℕ) → length places ≡ n → length (before_if b k places) ≡ more_if b n
before_length true k places n e = ap suc e
before_length false k places n e = e

places_length : (ss : List Session) (k : ℕ) → length (places_from is_open_keyed k ss) ≡ how_many is_open_keyed ss
places_length [] k = refl
places_length (s ∷ ss) k = before_length (is_open_keyed s) k (places_from is_open_keyed (suc k) ss) (how_many is_open_keyed ss) (places_length ss (suc k))

-- the session at the first of the places was open with keys: one fewer is so once it is closed
pub record FirstClosed (ss : List Session) (k a : ℕ) : Type 0 where
  pub from : ℕ
  pub is : a ≡ k + from
  pub fewer : suc (how_many is_open_keyed (changed_at from closed ss)) ≡ how_many is_open_keyed ss

head_is : {a b : ℕ} {xs ys : List ℕ} → a ∷ xs ≡ b ∷ ys → a ≡ b
head_is e = ap (λ (places : List ℕ). get_or places 0 0) e

-- by whether the first session is open and has keys
first_step : (s : Session) (ss : List Session) (k a : ℕ) (rest : List ℕ) (b : Bool) → is_open_keyed s ≡ b →
    before_if b k (places_from is_open_keyed (suc k) ss) ≡ a ∷ rest →
    (places_from is_open_keyed (suc k) ss ≡ a ∷ rest → FirstClosed ss (suc k) a) → FirstClosed (s ∷ ss) k a
first_step s ss k a rest true is e ih = record {
  from = 0;
  is = let h : k ≡ a = head_is e in omega (arith, h);
  fewer = ap (λ (b : Bool). more_if b (how_many is_open_keyed ss)) (sym is);
}
first_step s ss k a rest false is e ih =
    let f = ih e in record {
      from = suc f.from;
      is = omega (arith, f.is);
      fewer = rw is f.fewer;
    }

no_places : {a : ℕ} {places : List ℕ} → [] ≡ a ∷ places → ⊥
no_places {a = a} {places = places} e = let h : 0 ≡ suc (length places) = ap length e in omega (arith, h)

first_closed : (ss : List Session) (k a : ℕ) (rest : List ℕ) → places_from is_open_keyed k ss ≡ a ∷ rest → FirstClosed ss k a
first_closed [] k a rest e = absurd (no_places e)
first_closed (s ∷ ss) k a rest e = first_step s ss k a rest (is_open_keyed s) refl e (λ there. first_closed ss (suc k) a rest there)

-- ---- keys for one session more

one_more : (a : Bool) (b : Bool) (n : ℕ) → more_if a n ≤ suc (more_if b n)
one_more true true n = omega arith
one_more true false n = omega arith
one_more false true n = omega arith
one_more false false n = omega arith

more_suc : (b : Bool) (m n : ℕ) → m ≤ suc n → more_if b m ≤ suc (more_if b n)
more_suc true m n le = omega (arith, le)
more_suc false m n le = le

-- a change of one session makes one more at most open with keys
changed_one_more : (n : ℕ) (f : Session → Session) (ss : List Session) → how_many is_open_keyed (changed_at n f ss) ≤ suc (how_many is_open_keyed ss)
changed_one_more n f [] = omega arith
changed_one_more zero f (s ∷ ss) = one_more (is_open_keyed (f s)) (is_open_keyed s) (how_many is_open_keyed ss)
changed_one_more (suc n) f (s ∷ ss) = more_suc (is_open_keyed s) (how_many is_open_keyed (changed_at n f ss)) (how_many is_open_keyed ss) (changed_one_more n f ss)

changed_still_keyed : (n : ℕ) (f : Session → Session) (ss : List Session) → ((s : Session) → has_keys s ≡ true → has_keys (f s) ≡ true) →
    all_before_have_keys ss ≡ true → all_before_have_keys (changed_at n f ss) ≡ true
changed_still_keyed n f [] keeps k = refl
changed_still_keyed zero f (s ∷ []) keeps k = refl
changed_still_keyed (suc n) f (s ∷ []) keeps k = refl
changed_still_keyed zero f (s ∷ t ∷ ss) keeps k = pair (keeps s (both k).0) (both k).1
changed_still_keyed (suc zero) f (s ∷ t ∷ ss) keeps k = pair (both k).0 (changed_still_keyed zero f (t ∷ ss) keeps (both k).1)
changed_still_keyed (suc (suc n)) f (s ∷ t ∷ ss) keeps k = pair (both k).0 (changed_still_keyed (suc n) f (t ∷ ss) keeps (both k).1)

-- sessions that are orderly but for a third that is open with keys
pub record IsOneTooMany (ss : List Session) : Type 0 where
  pub begun : 1 ≤ length ss
  pub keyed : all_before_have_keys ss ≡ true
  pub three : how_many is_open_keyed ss ≤ 3

-- a change by which sessions keep their keys leaves them so
pub changed_three : (n : ℕ) (f : Session → Session) (ss : List Session) → ((s : Session) → has_keys s ≡ true → has_keys (f s) ≡ true) →
    IsOrderly ss → IsOneTooMany (changed_at n f ss)
changed_three n f ss keeps o = record {
  begun = omega (arith, changed_length n f ss, o.begun);
  keyed = changed_still_keyed n f ss keeps o.keyed;
  three = omega (arith, changed_one_more n f ss, o.few);
}

-- the sessions once the oldest was closed, where three are open with keys
abbrev pub after_oldest : Option ℕ → List Session → List Session
after_oldest None ss = ss
after_oldest (Some n) ss = changed_at n closed ss

none_closed : (ss : List Session) (places : List ℕ) → places_from is_open_keyed 0 ss ≡ places → length places ≤ 2 → IsOneTooMany ss → IsOrderly ss
none_closed ss places e few o = record {
  begun = o.begun;
  keyed = o.keyed;
  few = omega (arith, places_length ss 0, ap length e, few);
}

-- the oldest is closed
pub oldest_closed : (ss : List Session) (places : List ℕ) → places_from is_open_keyed 0 ss ≡ places → IsOneTooMany ss → IsOrderly (after_oldest (oldest_of places) ss)
oldest_closed ss [] e o = none_closed ss [] e (omega arith) o
oldest_closed ss (a ∷ []) e o = none_closed ss (a ∷ []) e (omega arith) o
oldest_closed ss (a ∷ b ∷ []) e o = none_closed ss (a ∷ b ∷ []) e (omega arith) o
oldest_closed ss (a ∷ b ∷ c ∷ more) e o =
    let f = first_closed ss 0 a (b ∷ c ∷ more) e in
    let at : f.from ≡ a = omega (arith, f.is) in
    record {
      begun = omega (arith, changed_length a closed ss, o.begun);
      keyed = changed_still_keyed a closed ss (λ s k. k) o.keyed;
      few = subst (λ (n : ℕ). how_many is_open_keyed (changed_at n closed ss) ≤ 2) at (omega (arith, f.fewer, o.three));
    }
