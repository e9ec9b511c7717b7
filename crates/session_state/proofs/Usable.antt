-- The sessions whose keys may be used.
use Rattle.std.proofs.Common.{◌≡◌, ◌≤◌, ◌<◌, ℕ, zero, suc, Bool, true, false, List, [], ◌∷◌, length, take, Option, Some, None, Err, refl, ap, sym, subst, ◌∙◌, arith}
use Rattle.std.specs.Prelude.{slice_get, ◌==◌, if◌then◌else◌}
use Rattle.std.proofs.lemmas.Bool.{false≢true}
use Rattle.std.proofs.lemmas.Option.{none-some}
use Rattle.vpn_base.specs.declared.names.Moment.{Moment}
use Rattle.peer_table.specs.Places.{last_place, later}
use Rattle.peer_table.specs.KeySessions.{Keys, Session, Stage, has_keys, in_transition, is_keyed, keyed_before, keys_of, kid_of, live_with, newest, newest_usable, retiring, session_at, usable, usable_of, usable_with, with_kid}
use Rattle.peer_table.specs.KeySessions as sessions
use Rattle.peer_table.specs.Orderly.{IsOrderly}
use Rattle.peer_table.specs.declared.outcomes.SessionFault.TheVariants.{BadKey}
use Rattle.peer_table.specs.DataPackets.{data_came, data_kid, ids_are_spent, opened_by, opened_in, sealed_by, sealed_in, sealed_to}
use Rattle.peer_table.specs.Peer.{Peer, answered}
use Rattle.key_sessions.specs.declared.slots.Slots.{Slots}
use Rattle.key_sessions.specs.Slots.{LastIsOpen, SlotsStand}
use Rattle.peer_lines.specs.declared.channels.SessionChannels.{SessionChannels}
use Rattle.peer_lines.specs.Standing.{StandsFor}
use Rattle.session_state.specs.Standing.{UsableAreOpen}
use Rattle.session_state.proofs.OpenPlaces.{OpenAt}

-- a session with keys, and its keys
pub record KeyedAt (ss : List Session) (n : ℕ) : Type 0 where
  pub session : Session
  pub keys : Keys
  pub here : slice_get ss n ≡ Some session
  pub keyed : keys_of session.stage ≡ Some keys

with_keys : (stage : Stage) → is_keyed stage ≡ true → (keys : Keys) × (keys_of stage ≡ Some keys)
with_keys sessions.Opening is = absurd (false≢true is)
with_keys sessions.Named is = absurd (false≢true is)
with_keys (sessions.Keyed keys) is = (keys, refl)

last_by : (s : Session) (ss : List Session) (rest : Option ℕ) (n : ℕ) → later (has_keys s) rest ≡ Some n → ((m : ℕ) → rest ≡ Some m → KeyedAt ss m) → KeyedAt (s ∷ ss) n
last_by s ss (Some m) n is further =
    let same : suc m ≡ n = cc is in
    let there = further m refl in
    subst (KeyedAt (s ∷ ss)) same (record { session = there.session; keys = there.keys; here = there.here; keyed = there.keyed })
last_by s ss None n is further = last_here s ss n (has_keys s) refl is
  where
    last_here : (s : Session) (ss : List Session) (n : ℕ) (b : Bool) → has_keys s ≡ b → later b None ≡ Some n → KeyedAt (s ∷ ss) n
    last_here s ss n true has is =
        let same : 0 ≡ n = cc is in
        let keys = with_keys s.stage has in
        subst (KeyedAt (s ∷ ss)) same (record { session = s; keys = keys.0; here = refl; keyed = keys.1 })
    last_here s ss n false has is = absurd (none-some n is)

-- the last with keys has them
pub last_keyed : (ss : List Session) (n : ℕ) → last_place has_keys ss ≡ Some n → KeyedAt ss n
last_keyed [] n is = absurd (none-some n is)
last_keyed (s ∷ ss) n is = last_by s ss (last_place has_keys ss) n is (λ m. last_keyed ss m)

pub newest_keyed : (ss : List Session) (n : ℕ) → newest_usable ss ≡ Some n → KeyedAt ss n
unfolding newest_usable
newest_keyed ss n is = last_keyed ss n is

-- what stands among the first ones stands there
pub in_front : (m : ℕ) (ss : List Session) (n : ℕ) (s : Session) → slice_get (take m ss) n ≡ Some s → slice_get ss n ≡ Some s
in_front zero ss n s at = absurd (none-some s at)
in_front (suc m) [] n s at = absurd (none-some s at)
in_front (suc m) (x ∷ ss) zero s at = at
in_front (suc m) (x ∷ ss) (suc n) s at = in_front m ss n s at

before_keyed : (ss : List Session) (last : Option ℕ) (n : ℕ) → keyed_before ss last ≡ Some n → KeyedAt ss n
before_keyed ss None n is = absurd (none-some n is)
before_keyed ss (Some m) n is =
    let there = last_keyed (take m ss) n is in
    record { session = there.session; keys = there.keys; here = in_front m ss n there.session there.here; keyed = there.keyed }

pub retiring_keyed : (ss : List Session) (n : ℕ) → retiring ss ≡ Some n → KeyedAt ss n
unfolding retiring
retiring_keyed ss n is = before_keyed ss (newest_usable ss) n is

-- ---- sealing

pub sealed_is : (p : Peer) (inner : List ℕ) (n : ℕ) (s : Session) (keys : Keys) → Some n ≡ newest_usable p.sessions → slice_get p.sessions n ≡ Some s → keys_of s.stage ≡ Some keys →
    sealed_by p inner n s (Some keys) (ids_are_spent s) ≡ sealed_to inner p
unfolding sealed_to
sealed_is p inner n s keys is at keyed =
    sym (ap (λ (o : Option ℕ). sealed_in p inner o (session_at p.sessions o)) (sym is)
    ∙ ap (λ (o : Option Session). sealed_in p inner (Some n) o) at
    ∙ ap (λ (k : Option Keys). sealed_by p inner n s k (ids_are_spent s)) keyed)

pub none_sealed : (p : Peer) (inner : List ℕ) → None ≡ newest_usable p.sessions → answered p (Err (record {})) ≡ sealed_to inner p
unfolding sealed_to
none_sealed p inner is = ap (λ (o : Option ℕ). sealed_in p inner o (session_at p.sessions o)) is

-- ---- opening

found_by : (kid n m : ℕ) (b : Bool) (rest : Option ℕ) (P : Type 0) → (if b then Some m else rest) ≡ Some n → (m ≡ n → P) → (rest ≡ Some n → P) → P
found_by kid n m true rest P is here there = let same : m ≡ n = cc is in here same
found_by kid n m false rest P is here there = there is

usable_by : (kid n : ℕ) (last older : Option ℕ) (still : Bool) (P : Type 0) → with_kid kid (usable_of last older still) ≡ Some n →
    (last ≡ Some n → P) → (older ≡ Some n → still ≡ true → P) → P
usable_by kid n None older still P is newest retired = absurd (none-some n is)
usable_by kid n (Some last) None still P is newest retired =
    found_by kid n last (kid_of last == kid) None P is (λ same. newest (ap Some same)) (λ none. absurd (none-some n none))
usable_by kid n (Some last) (Some older) false P is newest retired =
    found_by kid n last (kid_of last == kid) None P is (λ same. newest (ap Some same)) (λ none. absurd (none-some n none))
usable_by kid n (Some last) (Some older) true P is newest retired =
    found_by kid n last (kid_of last == kid) (with_kid kid (older ∷ [])) P is (λ same. newest (ap Some same))
    (λ rest. found_by kid n older (kid_of older == kid) None P rest (λ same. retired (ap Some same) refl) (λ none. absurd (none-some n none)))

-- an open session with keys
pub record OpenKeyedAt (ss : List Session) (n : ℕ) : Type 0 where
  pub keyed : KeyedAt ss n
  pub is_open : keyed.session.is_open ≡ true

pub usable_open : (p : Peer) (at kid n : ℕ) → LastIsOpen p.sessions → UsableAreOpen p at → usable_with p.timers at p.sessions kid ≡ Some n → OpenKeyedAt p.sessions n
unfolding usable_with usable
usable_open p at kid n last usables is =
    usable_by kid n (newest_usable p.sessions) (retiring p.sessions) (in_transition p.timers at p.sessions) (OpenKeyedAt p.sessions n) is
    (λ newest. let there = newest_keyed p.sessions n newest in record { keyed = there; is_open = last n there.session newest there.here })
    (λ older still. let there = retiring_keyed p.sessions n older in record { keyed = there; is_open = usables n there.session older there.here still })

pub opened_is : (p : Peer) (datagram : List ℕ) (moment : Moment) (n : ℕ) (s : Session) (keys : Keys) → Some n ≡ usable_with p.timers moment.0 p.sessions (data_kid datagram) →
    slice_get p.sessions n ≡ Some s → keys_of s.stage ≡ Some keys → opened_by p datagram n s moment (Some keys) ≡ data_came datagram moment p
unfolding data_came
opened_is p datagram moment n s keys is at keyed =
    sym (ap (λ (o : Option ℕ). opened_in p datagram moment o (session_at p.sessions o)) (sym is)
    ∙ ap (λ (o : Option Session). opened_in p datagram moment (Some n) o) at
    ∙ ap (λ (k : Option Keys). opened_by p datagram n s moment k) keyed)

pub none_opened : (p : Peer) (datagram : List ℕ) (moment : Moment) → None ≡ usable_with p.timers moment.0 p.sessions (data_kid datagram) →
    answered p (Err (BadKey (data_kid datagram))) ≡ data_came datagram moment p
unfolding data_came
none_opened p datagram moment is = ap (λ (o : Option ℕ). opened_in p datagram moment o (session_at p.sessions o)) is

-- the last session with keys is open
pub last_open : (ss : List Session) (slots : Slots SessionChannels) → SlotsStand StandsFor slots ss → LastIsOpen ss
unfolding SlotsStand
last_open ss slots are = are.sealing

-- ---- live sessions

last_at : {X : Type 0} (passes : X → Bool) (xs : List X) (n : ℕ) (x : X) → slice_get xs n ≡ Some x → suc n ≡ length xs → passes x ≡ true → last_place passes xs ≡ Some n
last_at passes [] n x at size is = absurd (none-some x at)
last_at passes (y ∷ []) zero x at size is = let same : y ≡ x = cc at in ap (λ (b : Bool). later b None) (ap passes same ∙ is)
last_at passes (y ∷ z ∷ xs) zero x at size is = absurd (omega (arith, size))
last_at passes (y ∷ xs) (suc n) x at size is = let less : suc n ≡ length xs = omega (arith, size) in ap (λ (o : Option ℕ). later (passes y) o) (last_at passes xs n x at less is)

-- each session without keys is open
abbrev pub OpenWithoutKeys : List Session → Type 0
OpenWithoutKeys ss = (n : ℕ) (s : Session) → slice_get ss n ≡ Some s → has_keys s ≡ false → s.is_open ≡ true

last_is_open : (ss : List Session) (n : ℕ) (s : Session) (b : Bool) → has_keys s ≡ b → slice_get ss n ≡ Some s → suc n ≡ length ss → LastIsOpen ss → OpenWithoutKeys ss → s.is_open ≡ true
unfolding newest_usable
last_is_open ss n s true has at size last without = last n s (last_at has_keys ss n s at size has) at
last_is_open ss n s false has at size last without = without n s at has

there_at : {X : Type 0} (xs : List X) (n : ℕ) → n < length xs → (x : X) × (slice_get xs n ≡ Some x)
there_at [] n below = absurd (omega (arith, below))
there_at (x ∷ xs) zero below = (x, refl)
there_at (x ∷ xs) (suc n) below = there_at xs n (omega (arith, below))

newest_open : (ss : List Session) → 1 ≤ length ss → LastIsOpen ss → OpenWithoutKeys ss → OpenAt (slice_get ss) (newest ss)
newest_open ss begun last without =
    let there = there_at ss (newest ss) (omega (arith, begun)) in
    record { session = there.0; here = there.1; is_open = last_is_open ss (newest ss) there.0 (has_keys there.0) refl there.1 (omega (arith, begun)) last without }

usable_is_open : (p : Peer) (at kid n : ℕ) → LastIsOpen p.sessions → UsableAreOpen p at → with_kid kid (usable p.timers at p.sessions) ≡ Some n → OpenKeyedAt p.sessions n
unfolding usable_with
usable_is_open p at kid n last usables is = usable_open p at kid n last usables is

-- the live session with a key id is open
pub live_open : (p : Peer) (at kid n : ℕ) → IsOrderly p.sessions → LastIsOpen p.sessions → OpenWithoutKeys p.sessions → UsableAreOpen p at → live_with p.timers at p.sessions kid ≡ Some n →
    OpenAt (slice_get p.sessions) n
unfolding live_with
live_open p at kid n orderly last without usables is =
    found_by kid n (newest p.sessions) (kid_of (newest p.sessions) == kid) (with_kid kid (usable p.timers at p.sessions)) (OpenAt (slice_get p.sessions) n) is
    (λ same. subst (OpenAt (slice_get p.sessions)) same (newest_open p.sessions orderly.begun last without))
    (λ rest. let there = usable_is_open p at kid n last usables rest in record { session = there.keyed.session; here = there.keyed.here; is_open = there.is_open })
