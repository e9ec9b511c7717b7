-- Keys for the newest key session leave the one before the last with keys open: it was the last one, and where three are open with keys,
-- it is not the oldest of them.
use Rattle.std.proofs.Common.{◌≡◌, ◌≢◌, ◌≤◌, ℕ, zero, suc, ◌+◌, Bool, true, false, List, [], ◌∷◌, length, take, get_or, Option, Some, None, refl, ap, sym, ◌∙◌, arith}
use Rattle.std.proofs.lemmas.Bool.{false≢true}
use Rattle.std.proofs.lemmas.Option.{none-some}
use Rattle.std.specs.Prelude.{◌&&◌, slice_get}
use Rattle.vpn_base.specs.declared.names.Cipher.{Cipher}
use Rattle.vpn_base.specs.declared.names.Draw.{Draw}
use Rattle.vpn_base.specs.declared.names.Policy.{Policy}
use Rattle.vpn_base.specs.declared.names.Timers.{Timers}
use Rattle.key_method2.specs.declared.message.Km2.{Km2}
use Rattle.key_method2.specs.declared.message.Source.{Source}
use Rattle.peer_table.specs.declared.outcomes.Turn.{Turn}
use Rattle.peer_table.specs.KeySessions.{Keyed, Named, Opening, Session, Stage, closed, has_keys, is_keyed, keyed_before, newest, newest_session, newest_usable, retiring}
use Rattle.peer_table.specs.Peer.{Outcome, Peer}
use Rattle.peer_table.specs.Places.{before_if, changed_at, last_place, later, places_from}
use Rattle.peer_table.specs.EngineAnswers.{message_in, message_of, prepared_message}
use Rattle.peer_table.specs.Exchange.{at_most_two, chosen, exchanged, exchanged_from, exchanged_with, is_open_keyed, oldest_of, server_source, session_closed}
use Rattle.key_sessions.specs.Slots.{LastIsOpen}
use Rattle.peer_session.proofs.Retired.{AnyName, IsRetired, OfPeer, stood}
use Rattle.peer_session.proofs.Retiring.{retiring_changed}

-- ---- the newest session gets keys

-- a session without keys is the last of these, and has this number
record IsLast (ss : List Session) (n : ℕ) : Type 0 where
  session : Session
  size : length ss ≡ suc n
  here : slice_get ss n ≡ Some session
  none : has_keys session ≡ false

last_given : (ss : List Session) (n : ℕ) (f : Session → Session) → length ss ≡ suc n → ((s : Session) → has_keys (f s) ≡ true) →
    last_place has_keys (changed_at n f ss) ≡ Some n
last_given [] n f size gives = absurd (omega (arith, size))
last_given (s ∷ []) zero f size gives = ap (λ (b : Bool). later b None) (gives s)
last_given (s ∷ t ∷ ss) zero f size gives = absurd (omega (arith, size))
last_given (s ∷ ss) (suc n) f size gives = ap (later (has_keys s)) (last_given ss n f (omega (arith, size)) gives)

last_without : (ss : List Session) (n : ℕ) (s : Session) → length ss ≡ suc n → slice_get ss n ≡ Some s → has_keys s ≡ false →
    last_place has_keys ss ≡ last_place has_keys (take n ss)
last_without [] n s size here none = absurd (omega (arith, size))
last_without (a ∷ []) zero s size here none = let same : a ≡ s = cc here in ap (λ (b : Bool). later b None) (ap has_keys same ∙ none)
last_without (a ∷ b ∷ ss) zero s size here none = absurd (omega (arith, size))
last_without (a ∷ ss) (suc n) s size here none = ap (later (has_keys a)) (last_without ss n s (omega (arith, size)) here none)

-- those before it stay
take_before : (n : ℕ) (f : Session → Session) (ss : List Session) → take n (changed_at n f ss) ≡ take n ss
take_before zero f ss = refl
take_before (suc n) f [] = refl
take_before (suc n) f (s ∷ ss) = ap (λ (rest : List Session). s ∷ rest) (take_before n f ss)

-- the one before the last with keys is now the last of those before it
retiring_given : (ss : List Session) (n : ℕ) (f : Session → Session) → length ss ≡ suc n → ((s : Session) → has_keys (f s) ≡ true) →
    retiring (changed_at n f ss) ≡ last_place has_keys (take n ss)
unfolding retiring newest_usable
retiring_given ss n f size gives =
    ap (keyed_before (changed_at n f ss)) (last_given ss n f size gives) ∙ ap (last_place has_keys) (take_before n f ss)

-- which was the last with keys
was_newest : (ss : List Session) (n : ℕ) → IsLast ss n → last_place has_keys (take n ss) ≡ newest_usable ss
unfolding newest_usable
was_newest ss n last = sym (last_without ss n last.session last.size last.here last.none)

-- the one before the last with keys is open
abbrev StillOpen : List Session → Type 0
StillOpen ss = (n : ℕ) (s : Session) → retiring ss ≡ Some n → slice_get ss n ≡ Some s → s.is_open ≡ true

given_open : (ss : List Session) (n : ℕ) (f : Session → Session) → IsLast ss n → ((s : Session) → has_keys (f s) ≡ true) → ((s : Session) → (f s).is_open ≡ s.is_open) →
    LastIsOpen ss → StillOpen (changed_at n f ss)
given_open ss n f last gives same open_one = λ m t older here.
    let before = stood n f ss m t here (λ s there. same s) in
    before.2 ∙ open_one m before.0 (sym (retiring_given ss n f last.size gives ∙ was_newest ss n last) ∙ older) before.1

-- ---- the oldest of three is closed

-- one of these has keys, and the last of them stands behind this number where the first has another
record Behind (front : List Session) (k a : ℕ) : Type 0 where
  place : ℕ
  is : last_place has_keys front ≡ Some place
  behind : suc a ≤ k + place

no_places : {a : ℕ} {places : List ℕ} → [] ≡ a ∷ places → ⊥
no_places {a = a} {places = places} e = let h : 0 ≡ suc (length places) = ap length e in omega (arith, h)

one_place : (b : Bool) (k a c : ℕ) (places : List ℕ) → before_if b k [] ≡ a ∷ c ∷ places → ⊥
one_place true k a c places e = let h : 1 ≡ suc (suc (length places)) = ap length e in omega (arith, h)
one_place false k a c places e = no_places e

head_is : {a b : ℕ} {xs ys : List ℕ} → a ∷ xs ≡ b ∷ ys → a ≡ b
head_is e = ap (λ (places : List ℕ). get_or places 0 0) e

tail_is : {a b : ℕ} {xs ys : List ℕ} → a ∷ xs ≡ b ∷ ys → xs ≡ ys
tail_is e = cc e

later_some : (b : Bool) (rest : Option ℕ) → b ≡ true → (j : ℕ) × (later b rest ≡ Some j)
later_some b (Some j) is = (suc j, refl)
later_some b None is = (0, ap (λ (h : Bool). later h None) is)

keyed_of : (o h : Bool) → (o && h) ≡ true → h ≡ true
keyed_of true h is = is
keyed_of false h is = absurd (false≢true is)

-- of two that are open with keys one stands before the newest
before_newest : (ss : List Session) (n k a c : ℕ) (more : List ℕ) → length ss ≡ suc n → places_from is_open_keyed k ss ≡ a ∷ c ∷ more →
    (j : ℕ) × (last_place has_keys (take n ss) ≡ Some j)
before_newest [] n k a c more size e = absurd (no_places e)
before_newest (s ∷ []) zero k a c more size e = absurd (one_place (is_open_keyed s) k a c more e)
before_newest (s ∷ t ∷ ss) zero k a c more size e = absurd (omega (arith, size))
before_newest (s ∷ ss) (suc n) k a c more size e = before_by s ss n k a c more (is_open_keyed s) refl e (λ f. before_newest ss n (suc k) a c more (omega (arith, size)) f)
  where
    before_by : (s : Session) (ss : List Session) (n k a c : ℕ) (more : List ℕ) (b : Bool) → is_open_keyed s ≡ b →
        before_if b k (places_from is_open_keyed (suc k) ss) ≡ a ∷ c ∷ more →
        (places_from is_open_keyed (suc k) ss ≡ a ∷ c ∷ more → (j : ℕ) × (last_place has_keys (take n ss) ≡ Some j)) →
        (j : ℕ) × (last_place has_keys (s ∷ take n ss) ≡ Some j)
    before_by s ss n k a c more true is e further = later_some (has_keys s) (last_place has_keys (take n ss)) (keyed_of s.is_open (has_keys s) is)
    before_by s ss n k a c more false is e further = let there = further e in (suc there.0, ap (later (has_keys s)) there.1)

-- of three the oldest stands before the last with keys that is not the newest
oldest_before : (ss : List Session) (n k a c d : ℕ) (more : List ℕ) → length ss ≡ suc n → places_from is_open_keyed k ss ≡ a ∷ c ∷ d ∷ more → Behind (take n ss) k a
oldest_before [] n k a c d more size e = absurd (no_places e)
oldest_before (s ∷ []) zero k a c d more size e = absurd (one_place (is_open_keyed s) k a c (d ∷ more) e)
oldest_before (s ∷ t ∷ ss) zero k a c d more size e = absurd (omega (arith, size))
oldest_before (s ∷ ss) (suc n) k a c d more size e =
    oldest_by s ss n k a c d more (omega (arith, size)) (is_open_keyed s) e (λ f. oldest_before ss n (suc k) a c d more (omega (arith, size)) f)
  where
    oldest_by : (s : Session) (ss : List Session) (n k a c d : ℕ) (more : List ℕ) → length ss ≡ suc n → (b : Bool) →
        before_if b k (places_from is_open_keyed (suc k) ss) ≡ a ∷ c ∷ d ∷ more →
        (places_from is_open_keyed (suc k) ss ≡ a ∷ c ∷ d ∷ more → Behind (take n ss) (suc k) a) → Behind (s ∷ take n ss) k a
    oldest_by s ss n k a c d more size true e further =
        let there = before_newest ss n (suc k) c d more size (tail_is e) in
        let first : k ≡ a = head_is e in
        record { place = suc there.0; is = ap (later (has_keys s)) there.1; behind = omega (arith, first) }
    oldest_by s ss n k a c d more size false e further =
        let there = further e in
        record { place = suc there.place; is = ap (later (has_keys s)) there.is; behind = omega (arith, there.behind) }

elsewhere : (n : ℕ) (f : Session → Session) (ss : List Session) (m : ℕ) → m ≢ n → slice_get (changed_at n f ss) m ≡ slice_get ss m
elsewhere n f [] m other = refl
elsewhere zero f (t ∷ ss) zero other = absurd (other refl)
elsewhere zero f (t ∷ ss) (suc m) other = refl
elsewhere (suc n) f (t ∷ ss) zero other = refl
elsewhere (suc n) f (t ∷ ss) (suc m) other = elsewhere n f ss m (λ e. other (ap suc e))

-- the sessions once the oldest was closed, where three are open with keys
abbrev after_oldest : Option ℕ → List Session → List Session
after_oldest None ss = ss
after_oldest (Some n) ss = changed_at n closed ss

oldest_closed : (ss : List Session) (n : ℕ) (places : List ℕ) → length ss ≡ suc n → retiring ss ≡ last_place has_keys (take n ss) →
    places_from is_open_keyed 0 ss ≡ places → StillOpen ss → StillOpen (after_oldest (oldest_of places) ss)
oldest_closed ss n [] size front e still = still
oldest_closed ss n (a ∷ []) size front e still = still
oldest_closed ss n (a ∷ c ∷ []) size front e still = still
oldest_closed ss n (a ∷ c ∷ d ∷ more) size front e still = λ m t older here.
    let was : retiring ss ≡ Some m = sym (retiring_changed a closed ss (λ s there. record { keyed = refl; began = refl })) ∙ older in
    let there = oldest_before ss n 0 a c d more size e in
    let same : there.place ≡ m = some_same (sym there.is ∙ (sym front ∙ was)) in
    let other : m ≢ a = λ is. omega (arith, there.behind, same, is) in
    still m t was (sym (elsewhere a closed ss m other) ∙ here)
  where
    some_same : {m n : ℕ} → Some m ≡ Some n → m ≡ n
    some_same e = cc e

-- ---- the exchange

still_retired : (at : ℕ) (timers : Timers) (ss : List Session) → StillOpen ss → IsRetired at timers ss
still_retired at timers ss still = λ n s older here shut. absurd (false≢true (sym shut ∙ still n s older here))

closed_retired : (at : ℕ) (o : Option ℕ) (c : Outcome Turn) → StillOpen (after_oldest o c.peer.sessions) → OfPeer (AnyName (IsRetired at)) (session_closed o c).peer
closed_retired at None c still = still_retired at c.peer.timers c.peer.sessions still
closed_retired at (Some n) c still = still_retired at c.peer.timers (changed_at n closed c.peer.sessions) still

at_most_two_retired : (at n : ℕ) (c : Outcome Turn) → length c.peer.sessions ≡ suc n → retiring c.peer.sessions ≡ last_place has_keys (take n c.peer.sessions) →
    StillOpen c.peer.sessions → OfPeer (AnyName (IsRetired at)) (at_most_two c).peer
at_most_two_retired at n c size front still =
    closed_retired at (oldest_of (places_from is_open_keyed 0 c.peer.sessions)) c
    (oldest_closed c.peer.sessions n (places_from is_open_keyed 0 c.peer.sessions) size front refl still)

changed_length : (n : ℕ) (f : Session → Session) (ss : List Session) → length (changed_at n f ss) ≡ length ss
changed_length n f [] = refl
changed_length zero f (s ∷ ss) = refl
changed_length (suc n) f (s ∷ ss) = ap suc (changed_length n f ss)

exchanged_with_retired : (at peer_id : ℕ) (p : Peer) (own : Source) (m : Km2) (used : ℕ) (cipher : Option Cipher) → IsLast p.sessions (newest p.sessions) → LastIsOpen p.sessions →
    OfPeer (AnyName (IsRetired at)) p → OfPeer (AnyName (IsRetired at)) (exchanged_with peer_id p own m used cipher).peer
exchanged_with_retired at peer_id p own m used None last open_one is = is
exchanged_with_retired at peer_id p own m used (Some cipher) last open_one is =
    at_most_two_retired at (newest p.sessions) _ (changed_length (newest p.sessions) _ p.sessions ∙ last.size)
    (retiring_given p.sessions (newest p.sessions) _ last.size (λ s. refl) ∙ ap (last_place has_keys) (sym (take_before (newest p.sessions) _ p.sessions)))
    (given_open p.sessions (newest p.sessions) _ last (λ s. refl) (λ s. refl) open_one)

no_keys_in : (p : Peer) (s : Session) (stage : Stage) (m : Km2 × ℕ) → message_in p s stage ≡ Some m → is_keyed stage ≡ false
no_keys_in p s Opening m is = refl
no_keys_in p s Named m is = refl
no_keys_in p s (Keyed keys) m is = absurd (none-some m is)

size_of : (ss : List Session) (s : Session) → slice_get ss (newest ss) ≡ Some s → length ss ≡ suc (newest ss)
size_of [] s is = absurd (none-some s is)
size_of (t ∷ ss) s is = omega arith

last_of : (p : Peer) (o : Option Session) (m : Km2 × ℕ) → newest_session p.sessions ≡ o → message_of p o ≡ Some m → IsLast p.sessions (newest p.sessions)
last_of p None m here is = absurd (none-some m is)
last_of p (Some s) m here is = record { session = s; size = size_of p.sessions s here; here = here; none = no_keys_in p s s.stage m is }

exchanged_from_retired : (at : ℕ) (policy : Policy) (peer_id : ℕ) (p : Peer) (own : Source) (m : Option (Km2 × ℕ)) → message_of p (newest_session p.sessions) ≡ m →
    LastIsOpen p.sessions → OfPeer (AnyName (IsRetired at)) p → OfPeer (AnyName (IsRetired at)) (exchanged_from policy peer_id p own m).peer
exchanged_from_retired at policy peer_id p own None e open_one is = is
exchanged_from_retired at policy peer_id p own (Some m) e open_one is =
    exchanged_with_retired at peer_id p own m.0 m.1 (chosen policy m.0.info) (last_of p (newest_session p.sessions) m refl e) open_one is

-- the key exchange of the newest session
pub exchange_retired : (at : ℕ) (policy : Policy) (peer_id : ℕ) (draw : Draw) (p : Peer) → LastIsOpen p.sessions → OfPeer (AnyName (IsRetired at)) p →
    OfPeer (AnyName (IsRetired at)) (exchanged policy peer_id draw p).peer
unfolding exchanged prepared_message
exchange_retired at policy peer_id draw p open_one is =
    exchanged_from_retired at policy peer_id p (server_source draw) (message_of p (newest_session p.sessions)) refl open_one is
