-- What holds of a core after one session's call.
use Rattle.std.proofs.Common.{◌≡◌, ℕ, zero, suc, ◌+◌, ◌-◌, ◌*◌, ◌^◌, ◌≤◌, List, [], ◌∷◌, slice_get, option_map, Option, Some, None, Result, Ok, Err, refl, sym, ap, subst, ◌∙◌, arith}
use Rattle.std.specs.Prelude.{is_some, unwrap_or}
use Rattle.std.specs.List.{AllByRecursion}
use Rattle.std.proofs.lemmas.Bool.{false≢true}
use Rattle.vpn_base.specs.declared.names.Place.{Place}
use Rattle.client_table.specs.declared.table.ClientTable.{ClientTable}
use Rattle.client_table.specs.Changes as table
use Rattle.client_table.specs.Entries.{Entry}
use Rattle.client_table.specs.Finding.{has_number}
use Rattle.client_table.specs.Tables.{admitted_by, entries_of}
use Rattle.peer_table.specs.declared.outcomes.Refused.{Refused}
use Rattle.peer_table.specs.declared.outcomes.Turn.{Turn}
use Rattle.peer_table.specs.declared.outcomes.Turn.TheVariants.{Going, Ignored, Named, Exchange, Over}
use Rattle.peer_table.specs.Outboxes.{GoesOnAfter}
use Rattle.server_state.specs.declared.client.ClientState.{ClientState}
use Rattle.server_state.specs.declared.state.ServerCore.{ServerCore}
use Rattle.server_state.specs.Core.{GoesOn, IsSound, IsSoundAhead, StaysTold}
use Rattle.server_state.specs.Endings.{IsSoundBut}
use Rattle.server_state.specs.Places.{IsChangedAt}
use Rattle.server_control.specs.internal.Taking.{IsSoundAfter}

pub all_at : {X : Type 0} (P : X → Type 0) (xs : List X) (i : ℕ) (v : X) → AllByRecursion P xs → slice_get xs i ≡ Some v → P v
all_at P [] i v all there = absurd (false≢true (ap is_some there))
all_at P (x ∷ xs) zero v all there = subst P (ap (λ (o : Option _). unwrap_or o x) there) all.0
all_at P (x ∷ xs) (suc i) v all there = all_at P xs i v all.1 there

all_as : {X : Type 0} (P Q : X → Type 0) → ((x : X) → P x → Q x) → (xs : List X) → AllByRecursion P xs → AllByRecursion Q xs
all_as P Q into [] all = all
all_as P Q into (x ∷ xs) all = (into x all.0, all_as P Q into xs all.1)

all_changed : {X : Type 0} (P Q : X → Type 0) (f : X → X) (xs : List X) (i : ℕ) → ((x : X) → P x → Q x) → AllByRecursion P xs
    → ((v : X) → slice_get xs i ≡ Some v → Q (f v)) → AllByRecursion Q (table.changed_at i f xs)
all_changed P Q f [] i into all new = all
all_changed P Q f (x ∷ xs) zero into all new = (new x refl, all_as P Q into xs all.1)
all_changed P Q f (x ∷ xs) (suc i) into all new = (into x all.0, all_changed P Q f xs i into all.1 new)

other_at : {X : Type 0} (f : X → X) (xs : List X) (i j : ℕ) (v : X) → slice_get (table.changed_at i f xs) j ≡ Some v → (i ≡ j → ⊥) → slice_get xs j ≡ Some v
other_at f [] i j v there apart = there
other_at f (x ∷ xs) zero zero v there apart = absurd (apart refl)
other_at f (x ∷ xs) zero (suc j) v there apart = there
other_at f (x ∷ xs) (suc i) zero v there apart = there
other_at f (x ∷ xs) (suc i) (suc j) v there apart = other_at f xs i j v there (λ e. apart (ap suc e))

-- another value leaves the places of clients
pub place_same : {V : Type 0} (n : ℕ) (w : V) (i : ℕ) (es : List (Entry V)) → table.place_of n (table.changed_at i (table.with_value w) es) ≡ table.place_of n es
place_same n w i [] = refl
place_same n w zero (e ∷ es) = refl
place_same n w (suc i) (e ∷ es) = ap (table.earlier (has_number n e.key)) (place_same n w i es)

pub value_of : {V : Type 0} (o : Option (Entry V)) (e : Entry V) (v : V) → o ≡ Some e → option_map (λ e. e.value) o ≡ Some v → e.value ≡ v
value_of o e v there is = ap (λ o. unwrap_or o v) (sym (ap (λ o. option_map (λ e. e.value) o) there) ∙ is)

value_some : {V : Type 0} (o : Option (Entry V)) (v : V) (P : V → Type 0) → option_map (λ e. e.value) o ≡ Some v
    → ((e : Entry V) → o ≡ Some e → P e.value) → P v
value_some None v P is into = absurd (false≢true (ap is_some is))
value_some (Some e) v P is into = subst P (ap (λ o. unwrap_or o v) is) (into e refl)

-- a session goes on, and has at most so many key sessions
pub record Goes {S : Type 0} (goes_on : S → Type 0) (count since : S → ℕ) (most moment : ℕ) (v : ClientState S) : Type 0 where
  pub session : goes_on v.session
  pub few : count v.session ≤ most
  pub past : since v.session ≤ moment

one_opened : (connections events k : ℕ) → k ≤ 1 → 1 ≤ events → connections ≤ 2 ^ 13 * (events - 1) → connections + k ≤ 2 ^ 13 * events
one_opened connections events k one counted few = omega (arith, one, counted, few)

into_last : {S : Type 0} {goes_on : S → Type 0} {count since : S → ℕ} {core : ServerCore S} → IsSound goes_on count since core → (last : Option Place)
    → IsSound goes_on count since (record core { last_taken = last })
into_last s last = record { sessions = s.sessions; most = s.most; admitted = s.admitted; connections = s.connections; timers = s.timers; no_counts = s.no_counts; late = s.late }

module _ {S : Type 0} (goes_on : S → Type 0) (count since : S → ℕ) (core : ServerCore S) (i : ℕ) (v : ClientState S)
    (there : option_map (λ e. e.value) (slice_get (entries_of core.clients) i) ≡ Some v) (counted : 1 ≤ core.events) (h : IsSoundAhead goes_on count since core) where
  -- the session at a place
  pub sound_at : Goes goes_on count since core.events core.moment.0 v
  sound_at =
      value_some (slice_get (entries_of core.clients) i) v (Goes goes_on count since core.events core.moment.0) there
      (λ e at.
      let g = all_at (GoesOn goes_on count since (core.events - 1 + 1) core.moment.0) (entries_of core.clients) i e h.sessions at in
      record { session = g.session; few = omega (arith, counted, g.few); past = g.past })

  into : (e : Entry (ClientState S)) → GoesOn goes_on count since (core.events - 1 + 1) core.moment.0 e → GoesOn goes_on count since (core.events + 1) core.moment.0 e
  into e g = record { session = g.session; few = omega (arith, counted, g.few); past = g.past }

  module _ (w : ClientState S) (ct : ClientTable (ClientState S)) (is : IsChangedAt core i (table.with_value w) ct) where
    -- nothing was done but that a session has made ready
    pub sound_kept : goes_on w.session → count w.session ≡ count v.session → since w.session ≤ core.moment.0 → IsSoundAhead goes_on count since (record core { clients = ct })
    sound_kept goes same later = record {
      sessions = subst (AllByRecursion (GoesOn goes_on count since (core.events - 1 + 1) core.moment.0)) (sym is.entries_are)
          (all_changed (GoesOn goes_on count since (core.events - 1 + 1) core.moment.0) (GoesOn goes_on count since (core.events - 1 + 1) core.moment.0) (table.with_value w) (entries_of core.clients) i (λ e g. g) h.sessions
          (λ e at. record { session = goes; few = omega (arith, counted, same, sound_at.few); past = later }));
      most = subst (λ k. k ≤ 4096) (sym is.most_is) h.most;
      admitted = subst (λ k. k ≤ core.events - 1) (sym is.admitted_is) h.admitted;
      connections = h.connections;
      timers = h.timers;
      no_counts = h.no_counts;
      late = h.late;
    }

    -- the session was told no later moment
    pub told_kept : since w.session ≡ since v.session → StaysTold since core (record core { clients = ct })
    told_kept same moment none =
        let early : Entry (ClientState S) → Type 0 = λ e. since e.value.session ≤ moment in
        let was : since v.session ≤ moment =
        value_some (slice_get (entries_of core.clients) i) v (λ u. since u.session ≤ moment) there (λ e at. all_at early (entries_of core.clients) i e none at) in
        subst (AllByRecursion early) (sym is.entries_are)
        (all_changed early early (table.with_value w) (entries_of core.clients) i (λ e g. g) none (λ e at. subst (λ n. n ≤ moment) (sym same) was))

    module _ (more : count w.session ≤ count v.session + 1) (later : since w.session ≤ core.moment.0) (k : ℕ) (one : k ≤ 1) where
      abbrev after : ServerCore S
      after = record core { clients = ct; connections = core.connections + k }

      admitted_few : (n m : ℕ) → n ≡ m → m ≤ core.events - 1 → n ≤ core.events
      admitted_few n m is few = omega (arith, is, few)

      sound_on : goes_on w.session → IsSound goes_on count since after
      sound_on goes = record {
        sessions = subst (AllByRecursion (GoesOn goes_on count since (core.events + 1) core.moment.0)) (sym is.entries_are)
            (all_changed (GoesOn goes_on count since (core.events - 1 + 1) core.moment.0) (GoesOn goes_on count since (core.events + 1) core.moment.0) (table.with_value w) (entries_of core.clients) i into h.sessions
            (λ e at. record { session = goes; few = omega (arith, more, sound_at.few); past = later }));
        most = subst (λ k. k ≤ 4096) (sym is.most_is) h.most;
        admitted = admitted_few (admitted_by ct) (admitted_by core.clients) is.admitted_is h.admitted;
        connections = one_opened core.connections core.events k one counted h.connections;
        timers = h.timers;
        no_counts = h.no_counts;
        late = h.late;
      }

      module _ (n : ℕ) (place : table.place_of n (entries_of core.clients) ≡ Some i) where
        is_placed : table.place_of n (entries_of ct) ≡ Some i
        is_placed = ap (table.place_of n) is.entries_are ∙ place_same n w i (entries_of core.clients) ∙ place

        sound_but : IsSoundBut goes_on count since n after
        sound_but = record {
          sessions = λ j e there apart.
              into e (all_at (GoesOn goes_on count since (core.events - 1 + 1) core.moment.0) (entries_of core.clients) j e h.sessions
              (other_at (table.with_value w) (entries_of core.clients) i j e (subst (λ es. slice_get es j ≡ Some e) is.entries_are there)
              (λ same. apart (is_placed ∙ ap Some same))));
          most = subst (λ k. k ≤ 4096) (sym is.most_is) h.most;
          admitted = admitted_few (admitted_by ct) (admitted_by core.clients) is.admitted_is h.admitted;
          connections = one_opened core.connections core.events k one counted h.connections;
          timers = h.timers;
          no_counts = h.no_counts;
          late = h.late;
        }

    -- a session has answered
    pub sound_after : (answer : Result Turn Refused) (k : ℕ) (last : Option Place) → GoesOnAfter (goes_on w.session) answer → count w.session ≤ count v.session + 1 → since w.session ≤ core.moment.0 → k ≤ 1
        → table.place_of core.turn.0 (entries_of core.clients) ≡ Some i
        → IsSoundAfter goes_on count since (record core { clients = ct; connections = core.connections + k; last_taken = last }) answer
    sound_after (Ok Going) k last goes more later one place = into_last (sound_on more later k one goes) last
    sound_after (Ok Ignored) k last goes more later one place = into_last (sound_on more later k one goes) last
    sound_after (Ok Named) k last goes more later one place = into_last (sound_on more later k one goes) last
    sound_after (Ok Exchange) k last goes more later one place = into_last (sound_on more later k one goes) last
    sound_after (Ok (Over cause)) k last goes more later one place =
        let s = sound_but more later k one core.turn.0 place in record { sessions = s.sessions; most = s.most; admitted = s.admitted; connections = s.connections; timers = s.timers; no_counts = s.no_counts; late = s.late }
    sound_after (Err refused) k last goes more later one place = into_last (sound_on more later k one goes) last
