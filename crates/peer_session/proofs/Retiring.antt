-- The last sessions with keys, and the transition between them, stay the same where one session changes that keeps its keys and its
-- moment, and where one without keys begins.
use Rattle.std.proofs.Common.{◌≡◌, ℕ, zero, suc, Bool, false, List, [], ◌∷◌, ◌++◌, take, Option, Some, None, refl, ap, ◌∙◌}
use Rattle.std.specs.Prelude.{not, slice_get}
use Rattle.std.proofs.lemmas.Option.{none-some}
use Rattle.vpn_base.specs.declared.names.Timers.{Timers}
use Rattle.peer_table.specs.KeySessions.{Session, began_before, has_keys, has_passed, in_transition, keyed_before, newest_usable, retiring, session_at}
use Rattle.peer_table.specs.Places.{changed_at, last_place, later}
use Rattle.session_state.proofs.Usable.{KeyedAt, in_front, newest_keyed}

-- a session has keys where it had them and nowhere else, and began when it did
pub record KeepsKeys (f : Session → Session) (s : Session) : Type 0 where
  pub keyed : has_keys (f s) ≡ has_keys s
  pub began : (f s).began ≡ s.began

-- the same of the session at a place
abbrev pub KeepsKeysAt : ℕ → (Session → Session) → List Session → Type 0
KeepsKeysAt n f ss = (s : Session) → slice_get ss n ≡ Some s → KeepsKeys f s

-- ---- one session changes

last_changed : (n : ℕ) (f : Session → Session) (ss : List Session) → KeepsKeysAt n f ss → last_place has_keys (changed_at n f ss) ≡ last_place has_keys ss
last_changed n f [] keeps = refl
last_changed zero f (s ∷ ss) keeps = ap (λ (b : Bool). later b (last_place has_keys ss)) (keeps s refl).keyed
last_changed (suc n) f (s ∷ ss) keeps = ap (later (has_keys s)) (last_changed n f ss keeps)

-- it changes among the first ones too
pub take_changed : (m n : ℕ) (f : Session → Session) (ss : List Session) → take m (changed_at n f ss) ≡ changed_at n f (take m ss)
take_changed zero n f ss = refl
take_changed (suc m) n f [] = refl
take_changed (suc m) zero f (s ∷ ss) = refl
take_changed (suc m) (suc n) f (s ∷ ss) = ap (λ (rest : List Session). s ∷ rest) (take_changed m n f ss)

keyed_changed : (n : ℕ) (f : Session → Session) (ss : List Session) (o : Option ℕ) → KeepsKeysAt n f ss → keyed_before (changed_at n f ss) o ≡ keyed_before ss o
keyed_changed n f ss None keeps = refl
keyed_changed n f ss (Some m) keeps =
    ap (last_place has_keys) (take_changed m n f ss) ∙ last_changed n f (take m ss) (λ s here. keeps s (in_front m ss n s here))

pub newest_changed : (n : ℕ) (f : Session → Session) (ss : List Session) → KeepsKeysAt n f ss → newest_usable (changed_at n f ss) ≡ newest_usable ss
unfolding newest_usable
newest_changed n f ss keeps = last_changed n f ss keeps

pub retiring_changed : (n : ℕ) (f : Session → Session) (ss : List Session) → KeepsKeysAt n f ss → retiring (changed_at n f ss) ≡ retiring ss
unfolding retiring
retiring_changed n f ss keeps =
    ap (keyed_before (changed_at n f ss)) (newest_changed n f ss keeps) ∙ keyed_changed n f ss (newest_usable ss) keeps

began_changed : (seconds now n : ℕ) (f : Session → Session) (ss : List Session) (m : ℕ) → KeepsKeysAt n f ss →
    began_before seconds now (slice_get (changed_at n f ss) m) ≡ began_before seconds now (slice_get ss m)
began_changed seconds now n f [] m keeps = refl
began_changed seconds now zero f (s ∷ ss) zero keeps = ap (λ (since : ℕ). has_passed seconds since now) (keeps s refl).began
began_changed seconds now zero f (s ∷ ss) (suc m) keeps = refl
began_changed seconds now (suc n) f (s ∷ ss) zero keeps = refl
began_changed seconds now (suc n) f (s ∷ ss) (suc m) keeps = began_changed seconds now n f ss m keeps

began_last : (seconds now n : ℕ) (f : Session → Session) (ss : List Session) (o : Option ℕ) → KeepsKeysAt n f ss →
    began_before seconds now (session_at (changed_at n f ss) o) ≡ began_before seconds now (session_at ss o)
began_last seconds now n f ss None keeps = refl
began_last seconds now n f ss (Some m) keeps = began_changed seconds now n f ss m keeps

pub transition_changed : (timers : Timers) (now n : ℕ) (f : Session → Session) (ss : List Session) → KeepsKeysAt n f ss →
    in_transition timers now (changed_at n f ss) ≡ in_transition timers now ss
unfolding in_transition
transition_changed timers now n f ss keeps =
    ap (λ (o : Option ℕ). not (began_before timers.tran now (session_at (changed_at n f ss) o))) (newest_changed n f ss keeps)
    ∙ ap not (began_last timers.tran now n f ss (newest_usable ss) keeps)

-- ---- one session more, without keys

pub last_more : (ss : List Session) (x : Session) → has_keys x ≡ false → last_place has_keys (ss ++ x ∷ []) ≡ last_place has_keys ss
last_more [] x none = ap (λ (b : Bool). later b None) none
last_more (s ∷ ss) x none = ap (later (has_keys s)) (last_more ss x none)

take_more : (ss : List Session) (x : Session) (n : ℕ) (s : Session) → slice_get ss n ≡ Some s → take n (ss ++ x ∷ []) ≡ take n ss
take_more ss x zero s here = refl
take_more [] x (suc n) s here = absurd (none-some s here)
take_more (t ∷ ss) x (suc n) s here = ap (λ (rest : List Session). t ∷ rest) (take_more ss x n s here)

pub at_more : (ss : List Session) (x : Session) (n : ℕ) (s : Session) → slice_get ss n ≡ Some s → slice_get (ss ++ x ∷ []) n ≡ slice_get ss n
at_more [] x n s here = absurd (none-some s here)
at_more (t ∷ ss) x zero s here = refl
at_more (t ∷ ss) x (suc n) s here = at_more ss x n s here

keyed_more : (ss : List Session) (x : Session) (o : Option ℕ) → ((n : ℕ) → o ≡ Some n → KeyedAt ss n) → keyed_before (ss ++ x ∷ []) o ≡ keyed_before ss o
keyed_more ss x None are = refl
keyed_more ss x (Some n) are = let there = are n refl in ap (last_place has_keys) (take_more ss x n there.session there.here)

newest_more : (ss : List Session) (x : Session) → has_keys x ≡ false → newest_usable (ss ++ x ∷ []) ≡ newest_usable ss
unfolding newest_usable
newest_more ss x none = last_more ss x none

pub retiring_more : (ss : List Session) (x : Session) → has_keys x ≡ false → retiring (ss ++ x ∷ []) ≡ retiring ss
unfolding retiring
retiring_more ss x none =
    ap (keyed_before (ss ++ x ∷ [])) (newest_more ss x none) ∙ keyed_more ss x (newest_usable ss) (λ n is. newest_keyed ss n is)

session_more : (ss : List Session) (x : Session) (o : Option ℕ) → ((n : ℕ) → o ≡ Some n → KeyedAt ss n) → session_at (ss ++ x ∷ []) o ≡ session_at ss o
session_more ss x None are = refl
session_more ss x (Some n) are = let there = are n refl in at_more ss x n there.session there.here

pub transition_more : (timers : Timers) (now : ℕ) (ss : List Session) (x : Session) → has_keys x ≡ false → in_transition timers now (ss ++ x ∷ []) ≡ in_transition timers now ss
unfolding in_transition
transition_more timers now ss x none =
    ap (λ (o : Option ℕ). not (began_before timers.tran now (session_at (ss ++ x ∷ []) o))) (newest_more ss x none)
    ∙ ap (λ (o : Option Session). not (began_before timers.tran now o)) (session_more ss x (newest_usable ss) (λ n is. newest_keyed ss n is))
