-- The newest session gets keys, its message is read, and one session too many is closed.
use Rattle.std.proofs.Common.{◌≡◌, ℕ, zero, suc, ◌<◌, Bool, true, List, [], ◌∷◌, length, Option, Some, None, refl, ap, subst, ◌∙◌, arith}
use Rattle.std.specs.Prelude.{slice_get}
use Rattle.std.proofs.lemmas.Option.{none-some}
use Rattle.control_link.specs.Links.{Link}
use Rattle.peer_table.specs.Exchange.{closing, is_open_keyed, oldest_of}
use Rattle.peer_table.specs.KeySessions.{Keys, Session, closed, has_keys, is_keyed, kid_of, newest, newest_session, newest_usable, session_at}
use Rattle.peer_table.specs.KeySessions as sessions
use Rattle.peer_table.specs.Peer.{Closes}
use Rattle.peer_table.specs.Places.{before_if, changed_at, last_place, later, places_from}
use Rattle.key_sessions.specs.Changes.{closed_in, exchanged_in, newest_keyed, one_closed, one_too_many}
use Rattle.key_sessions.specs.Sessions.{restaged}
use Rattle.peer_lines.specs.Calls.{with_read}

-- ---- two changes of sessions

twice : (n : ℕ) (f g : Session → Session) (ss : List Session) → changed_at n f (changed_at n g ss) ≡ changed_at n (λ s. f (g s)) ss
twice n f g [] = refl
twice zero f g (s ∷ ss) = refl
twice (suc n) f g (s ∷ ss) = ap (λ (ts : List Session). s ∷ ts) (twice n f g ss)

-- two that do not touch the same may come in any order
either_first : (n m : ℕ) (f g : Session → Session) (ss : List Session) → ((s : Session) → f (g s) ≡ g (f s)) → changed_at n f (changed_at m g ss) ≡ changed_at m g (changed_at n f ss)
either_first n m f g [] same = refl
either_first zero zero f g (s ∷ ss) same = ap (λ (t : Session). t ∷ ss) (same s)
either_first zero (suc m) f g (s ∷ ss) same = refl
either_first (suc n) zero f g (s ∷ ss) same = refl
either_first (suc n) (suc m) f g (s ∷ ss) same = ap (λ (ts : List Session). s ∷ ts) (either_first n m f g ss same)

-- the session has keys, and its message was read
abbrev pub exchanged_as : Keys → ℕ → Session → Session
exchanged_as keys used s = record s { stage = sessions.Keyed keys; read = used }

-- reading the message behind the closing is reading it before
read_before : (n used : ℕ) (keys : Keys) (o : Option ℕ) (ss : List Session) →
    changed_at n (with_read used) (closed_in o (changed_at n (restaged (sessions.Keyed keys)) ss)) ≡ closed_in o (changed_at n (exchanged_as keys used) ss)
read_before n used keys None ss = twice n (with_read used) (restaged (sessions.Keyed keys)) ss
read_before n used keys (Some m) ss =
    either_first n m (with_read used) closed (changed_at n (restaged (sessions.Keyed keys)) ss) (λ s. refl)
    ∙ ap (changed_at m closed) (twice n (with_read used) (restaged (sessions.Keyed keys)) ss)

places_same : (k n : ℕ) (f g : Session → Session) (ss : List Session) → ((s : Session) → is_open_keyed (f s) ≡ is_open_keyed (g s)) →
    places_from is_open_keyed k (changed_at n f ss) ≡ places_from is_open_keyed k (changed_at n g ss)
places_same k n f g [] same = refl
places_same k zero f g (s ∷ ss) same = ap (λ (b : Bool). before_if b k (places_from is_open_keyed (suc k) ss)) (same s)
places_same k (suc n) f g (s ∷ ss) same = ap (before_if (is_open_keyed s) k) (places_same (suc k) n f g ss same)

-- the session that is one too many is the same
same_oldest : (used : ℕ) (keys : Keys) (ss : List Session) →
    one_too_many (newest_keyed keys ss) ≡ oldest_of (places_from is_open_keyed 0 (changed_at (newest ss) (exchanged_as keys used) ss))
unfolding one_too_many newest_keyed
same_oldest used keys ss = ap oldest_of (places_same 0 (newest ss) (restaged (sessions.Keyed keys)) (exchanged_as keys used) ss (λ s. refl))

closing_here : (m n : ℕ) (f g : Session → Session) (ss : List Session) → ((s : Session) → (f s).link ≡ (g s).link) →
    closing (slice_get (changed_at n f ss) m) ≡ closing (slice_get (changed_at n g ss) m)
closing_here m n f g [] same = refl
closing_here zero zero f g (s ∷ ss) same = ap (λ (l : Link). Closes l.conn ∷ []) (same s)
closing_here (suc m) zero f g (s ∷ ss) same = refl
closing_here zero (suc n) f g (s ∷ ss) same = refl
closing_here (suc m) (suc n) f g (s ∷ ss) same = closing_here m n f g ss same

closing_at : (o : Option ℕ) (n : ℕ) (f g : Session → Session) (ss : List Session) → ((s : Session) → (f s).link ≡ (g s).link) →
    closing (session_at (changed_at n f ss) o) ≡ closing (session_at (changed_at n g ss) o)
closing_at None n f g ss same = refl
closing_at (Some m) n f g ss same = closing_here m n f g ss same

-- and so is what its closing does
pub same_closing : (used : ℕ) (keys : Keys) (ss : List Session) →
    closing (one_closed (newest_keyed keys ss))
    ≡ closing (session_at (changed_at (newest ss) (exchanged_as keys used) ss) (oldest_of (places_from is_open_keyed 0 (changed_at (newest ss) (exchanged_as keys used) ss))))
unfolding one_closed newest_keyed
same_closing used keys ss =
    closing_at (one_too_many (newest_keyed keys ss)) (newest ss) (restaged (sessions.Keyed keys)) (exchanged_as keys used) ss (λ s. refl)
    ∙ ap (λ (o : Option ℕ). closing (session_at (changed_at (newest ss) (exchanged_as keys used) ss) o)) (same_oldest used keys ss)

-- all sessions after the exchange
pub same_sessions : (used : ℕ) (keys : Keys) (ss : List Session) →
    changed_at (newest ss) (with_read used) (exchanged_in keys ss)
    ≡ closed_in (oldest_of (places_from is_open_keyed 0 (changed_at (newest ss) (exchanged_as keys used) ss))) (changed_at (newest ss) (exchanged_as keys used) ss)
unfolding exchanged_in newest_keyed
same_sessions used keys ss =
    read_before (newest ss) used keys (one_too_many (newest_keyed keys ss)) ss
    ∙ ap (λ (o : Option ℕ). closed_in o (changed_at (newest ss) (exchanged_as keys used) ss)) (same_oldest used keys ss)

-- ---- the newest session between the two

-- the session of a number, which may have been closed
record StillAt (ss : List Session) (n : ℕ) (s : Session) : Type 0 where
  session : Session
  here : slice_get ss n ≡ Some session
  link : session.link ≡ s.link
  plain : session.plain ≡ s.plain
  read : session.read ≡ s.read
  stage : session.stage ≡ s.stage

closed_still : (m n : ℕ) (ss : List Session) (s : Session) → slice_get ss n ≡ Some s → StillAt (changed_at m closed ss) n s
closed_still m n [] s at = absurd (none-some s at)
closed_still zero zero (x ∷ ss) s at =
    let same : x ≡ s = cc at in
    subst (StillAt (closed x ∷ ss) 0) same (record { session = closed x; here = refl; link = refl; plain = refl; read = refl; stage = refl })
closed_still zero (suc n) (x ∷ ss) s at = record { session = s; here = at; link = refl; plain = refl; read = refl; stage = refl }
closed_still (suc m) zero (x ∷ ss) s at = record { session = s; here = at; link = refl; plain = refl; read = refl; stage = refl }
closed_still (suc m) (suc n) (x ∷ ss) s at =
    let there = closed_still m n ss s at in
    record { session = there.session; here = there.here; link = there.link; plain = there.plain; read = there.read; stage = there.stage }

still_at : (o : Option ℕ) (n : ℕ) (ss : List Session) (s : Session) → slice_get ss n ≡ Some s → StillAt (closed_in o ss) n s
still_at None n ss s at = record { session = s; here = at; link = refl; plain = refl; read = refl; stage = refl }
still_at (Some m) n ss s at = closed_still m n ss s at

changed_there : (n : ℕ) (f : Session → Session) (ss : List Session) (s : Session) → slice_get ss n ≡ Some s → slice_get (changed_at n f ss) n ≡ Some (f s)
changed_there n f [] s at = absurd (none-some s at)
changed_there zero f (x ∷ ss) s at = let same : x ≡ s = cc at in ap (λ (t : Session). Some (f t)) same
changed_there (suc n) f (x ∷ ss) s at = changed_there n f ss s at

changed_length : (n : ℕ) (f : Session → Session) (ss : List Session) → length (changed_at n f ss) ≡ length ss
changed_length n f [] = refl
changed_length zero f (x ∷ ss) = refl
changed_length (suc n) f (x ∷ ss) = ap suc (changed_length n f ss)

closed_length : (o : Option ℕ) (ss : List Session) → length (closed_in o ss) ≡ length ss
closed_length None ss = refl
closed_length (Some m) ss = changed_length m closed ss

below_length : (ss : List Session) (n : ℕ) (s : Session) → slice_get ss n ≡ Some s → n < length ss
below_length [] n s at = absurd (none-some s at)
below_length (x ∷ ss) zero s at = omega arith
below_length (x ∷ ss) (suc n) s at = omega (arith, below_length ss n s at)

-- the last of all, which has keys, is the last with keys
last_is : (ss : List Session) (n : ℕ) (s : Session) → length ss ≡ suc n → slice_get ss n ≡ Some s → has_keys s ≡ true → last_place has_keys ss ≡ Some n
last_is [] n s size at keyed = absurd (none-some s at)
last_is (x ∷ []) zero s size at keyed = let same : x ≡ s = cc at in ap (λ (b : Bool). later b None) (ap has_keys same ∙ keyed)
last_is (x ∷ []) (suc n) s size at keyed = absurd (none-some s at)
last_is (x ∷ y ∷ ss) zero s size at keyed = absurd (omega (arith, size))
last_is (x ∷ y ∷ ss) (suc n) s size at keyed = ap (later (has_keys x)) (last_is (y ∷ ss) n s (omega (arith, size)) at keyed)

-- it has the keys, and what it had before
pub record KeyedNow (ss : List Session) (n : ℕ) (s : Session) (keys : Keys) : Type 0 where
  pub session : Session
  pub here : slice_get ss n ≡ Some session
  pub last : newest_usable ss ≡ Some n
  pub link : session.link ≡ s.link
  pub plain : session.plain ≡ s.plain
  pub read : session.read ≡ s.read
  pub stage : session.stage ≡ sessions.Keyed keys

keyed_by : (o : Option ℕ) (keys : Keys) (ss : List Session) (s : Session) → slice_get ss (newest ss) ≡ Some s →
    KeyedNow (closed_in o (changed_at (newest ss) (restaged (sessions.Keyed keys)) ss)) (newest ss) s keys
unfolding newest_usable
keyed_by o keys ss s at =
    let there = still_at o (newest ss) (changed_at (newest ss) (restaged (sessions.Keyed keys)) ss) (restaged (sessions.Keyed keys) s)
    (changed_there (newest ss) (restaged (sessions.Keyed keys)) ss s at) in
    let size = closed_length o (changed_at (newest ss) (restaged (sessions.Keyed keys)) ss) ∙ changed_length (newest ss) (restaged (sessions.Keyed keys)) ss in
    let some = below_length ss (newest ss) s at in
    record {
      session = there.session;
      here = there.here;
      last = last_is (closed_in o (changed_at (newest ss) (restaged (sessions.Keyed keys)) ss)) (newest ss) there.session (omega (arith, size, some)) there.here
          (ap is_keyed there.stage);
      link = there.link;
      plain = there.plain;
      read = there.read;
      stage = there.stage;
    }

pub keyed_now : (keys : Keys) (ss : List Session) (s : Session) → slice_get ss (newest ss) ≡ Some s → KeyedNow (exchanged_in keys ss) (newest ss) s keys
unfolding exchanged_in newest_keyed
keyed_now keys ss s at = keyed_by (one_too_many (newest_keyed keys ss)) keys ss s at
