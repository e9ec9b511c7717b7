-- What holds of every core, after the turn of a client.
use Rattle.std.proofs.Common.{◌≡◌, ℕ, zero, suc, ◌+◌, ◌*◌, ◌^◌, ◌≤◌, List, [], ◌∷◌, slice_get, Option, None, Some, option_map, refl, sym, ap, subst, ◌∙◌, arith}
use Rattle.std.specs.Prelude.{is_some, unwrap_or}
use Rattle.std.specs.List.{AllByRecursion}
use Rattle.std.proofs.lemmas.Bool.{false≢true}
use Rattle.client_table.specs.declared.table.ClientTable.{ClientTable}
use Rattle.client_table.specs.Changes.{changed_at, earlier, place_of, with_value}
use Rattle.client_table.specs.Entries.{Entry}
use Rattle.client_table.specs.Finding.{has_number}
use Rattle.client_table.specs.Tables.{entries_of}
use Rattle.peer_table.specs.declared.outcomes.Turn.{Turn}
use Rattle.peer_table.specs.declared.outcomes.Turn.TheVariants.{Exchange, Going, Ignored, Named, Over}
use Rattle.peer_table.specs.Outboxes.{GoesOnUnlessOver}
use Rattle.server_state.specs.declared.client.ClientState.{ClientState}
use Rattle.server_state.specs.declared.state.ServerCore.{ServerCore}
use Rattle.server_state.specs.Core.{GoesOn, IsSound}
use Rattle.server_state.specs.Endings.{IsSoundBut}
use Rattle.server_state.specs.Places.{IsChangedAt}
use Rattle.server_time.specs.Turns.{IsSoundBeforeTurn}

-- ---- lists

pub all_at : {X : Type 0} (P : X → Type 0) (xs : List X) (i : ℕ) (v : X) → AllByRecursion P xs → slice_get xs i ≡ Some v → P v
all_at P [] i v all there = absurd (false≢true (ap is_some there))
all_at P (x ∷ xs) zero v all there = subst P (ap (λ (o : Option _). unwrap_or o x) there) all.0
all_at P (x ∷ xs) (suc i) v all there = all_at P xs i v all.1 there

pub all_changed : {X : Type 0} (P : X → Type 0) (f : X → X) (xs : List X) (i : ℕ) → AllByRecursion P xs → ((v : X) → slice_get xs i ≡ Some v → P (f v))
    → AllByRecursion P (changed_at i f xs)
all_changed P f [] i all new = all
all_changed P f (x ∷ xs) zero all new = (new x refl, all.1)
all_changed P f (x ∷ xs) (suc i) all new = (all.0, all_changed P f xs i all.1 new)

others_same : {X : Type 0} (f : X → X) (xs : List X) (i j : ℕ) → (i ≡ j → ⊥) → slice_get (changed_at i f xs) j ≡ slice_get xs j
others_same f [] i j apart = refl
others_same f (x ∷ xs) zero zero apart = absurd (apart refl)
others_same f (x ∷ xs) zero (suc j) apart = refl
others_same f (x ∷ xs) (suc i) zero apart = refl
others_same f (x ∷ xs) (suc i) (suc j) apart = others_same f xs i j (λ is. apart (ap suc is))

place_same : {V : Type 0} (n : ℕ) (w : V) (es : List (Entry V)) (i : ℕ) → place_of n (changed_at i (with_value w) es) ≡ place_of n es
place_same n w [] i = refl
place_same n w (e ∷ es) zero = refl
place_same n w (e ∷ es) (suc i) = ap (earlier (has_number n e.key)) (place_same n w es i)

-- ---- turns

pub unless_over : (A B : Type 0) (turn : Turn) → GoesOnUnlessOver A turn → (A → B) → GoesOnUnlessOver B turn
unless_over A B Going h into = into h
unless_over A B Ignored h into = into h
unless_over A B Named h into = into h
unless_over A B Exchange h into = into h
unless_over A B (Over cause) h into = tt

-- ---- the core

module _ {S : Type 0} (goes_on : S → Type 0) (count since : S → ℕ) (core : ServerCore S) (ct : ClientTable (ClientState S)) (i n : ℕ) (v w : ClientState S)
    (h : IsSoundBeforeTurn goes_on count since n core) (place : place_of n (entries_of core.clients) ≡ Some i)
    (value : option_map (λ e. e.value) (slice_get (entries_of core.clients) i) ≡ Some v) (more : count w.session ≤ count v.session + 1) (past : since w.session ≤ core.moment.0)
    (is : IsChangedAt core i (with_value w) ct) (k : ℕ) (few : k ≤ 1) where
  still_few : count w.session ≤ core.events + 1
  still_few = omega (arith, more, h.few i v place value)

  connections : core.connections + k ≤ 2 ^ 13 * core.events
  connections = omega (arith, h.opens, few)

  -- where its session goes on
  pub is_sound : goes_on w.session → IsSound goes_on count since (record core { clients = ct; connections = core.connections + k })
  is_sound goes = record {
    sessions = subst (AllByRecursion (GoesOn goes_on count since (core.events + 1) core.moment.0)) (sym is.entries_are)
        (all_changed (GoesOn goes_on count since (core.events + 1) core.moment.0) (with_value w) (entries_of core.clients) i h.sound.sessions
        (λ e at. record { session = goes; few = still_few; past = past }));
    most = subst (λ m. m ≤ 4096) (sym is.most_is) h.sound.most;
    admitted = subst (λ m. m ≤ core.events) (sym is.admitted_is) h.sound.admitted;
    connections = connections;
    timers = h.sound.timers;
    no_counts = h.sound.no_counts;
    late = h.sound.late;
  }

  other : (j : ℕ) (e : Entry (ClientState S)) → slice_get (entries_of ct) j ≡ Some e → (place_of n (entries_of ct) ≡ Some j → ⊥)
      → GoesOn goes_on count since (core.events + 1) core.moment.0 e
  other j e there apart =
      let still : place_of n (entries_of ct) ≡ Some i = ap (place_of n) is.entries_are ∙ place_same n w (entries_of core.clients) i ∙ place in
      let at : slice_get (entries_of core.clients) j ≡ Some e =
      sym (others_same (with_value w) (entries_of core.clients) i j (λ same. apart (still ∙ ap (λ (i : ℕ). Some i) same)))
      ∙ sym (ap (λ (es : List (Entry (ClientState S))). slice_get es j) is.entries_are) ∙ there in
      all_at (GoesOn goes_on count since (core.events + 1) core.moment.0) (entries_of core.clients) j e h.sound.sessions at

  -- where it may be over
  pub is_sound_but : IsSoundBut goes_on count since n (record core { clients = ct; connections = core.connections + k })
  is_sound_but = record {
    sessions = λ j e there apart. other j e there apart;
    most = subst (λ m. m ≤ 4096) (sym is.most_is) h.sound.most;
    admitted = subst (λ m. m ≤ core.events) (sym is.admitted_is) h.sound.admitted;
    connections = connections;
    timers = h.sound.timers;
    no_counts = h.sound.no_counts;
    late = h.sound.late;
  }

-- what holds of a session that is there
goes_as : {S : Type 0} (goes_on : S → Type 0) (count since : S → ℕ) (most moment : ℕ) (es : List (Entry (ClientState S))) (i : ℕ) (o : Option (Entry (ClientState S))) (v : ClientState S)
    → AllByRecursion (GoesOn goes_on count since most moment) es → slice_get es i ≡ o → option_map (λ e. e.value) o ≡ Some v
    → goes_on v.session × (since v.session ≤ moment)
goes_as goes_on count since most moment es i None v all there value = absurd (false≢true (ap is_some value))
goes_as goes_on count since most moment es i (Some e) v all there value =
    let h = all_at (GoesOn goes_on count since most moment) es i e all there in
    subst (λ (v : ClientState _). goes_on v.session × (since v.session ≤ moment)) (ap (λ o. unwrap_or o v) value) (h.session, h.past)

pub goes_there : {S : Type 0} (goes_on : S → Type 0) (count since : S → ℕ) (core : ServerCore S) (i : ℕ) (v : ClientState S) → IsSound goes_on count since core
    → option_map (λ e. e.value) (slice_get (entries_of core.clients) i) ≡ Some v → goes_on v.session × (since v.session ≤ core.moment.0)
goes_there goes_on count since core i v h value =
    goes_as goes_on count since (core.events + 1) core.moment.0 (entries_of core.clients) i (slice_get (entries_of core.clients) i) v h.sessions refl value
