-- What holds of every core, before and after memory is taken for an event that counts already.
use Rattle.std.proofs.Common.{◌≡◌, ℕ, ◌+◌, ◌-◌, ◌*◌, ◌^◌, ◌≤◌, Bool, List, [], ◌∷◌, length, sym, ap, subst, ◌∙◌, arith}
use Rattle.std.specs.List.{AllByRecursion}
use Rattle.vpn_base.specs.declared.names.Moment.{Moment}
use Rattle.vpn_links.specs.Actions.{Action, Contents, Datagram, Holds}
use Rattle.vpn_links.specs.declared.events.Kind.{Kind}
use Rattle.client_table.specs.Entries.{Entry}
use Rattle.client_table.specs.Tables.{admitted_by, entries_of, most_of}
use Rattle.peer_table.specs.Peer.{Peer}
use Rattle.server_table.specs.Courses.{Course}
use Rattle.server_table.specs.Time.{clients_ticked, tick}
use Rattle.server_state.specs.declared.client.ClientState.{ClientState}
use Rattle.server_state.specs.declared.state.ServerCore.{ServerCore}
use Rattle.server_state.specs.Core.{AreTimersFor, CourseStands, GoesOn, IsSound, IsSoundAhead, StaysTold}
use Rattle.server_time.specs.Memory.{AreReady, HasMemory, StaysSame, from_on}
use Rattle.server_time.specs.Others.{KeepsRest}
use Rattle.server_time.specs.Turns.{IsNext}
use Rattle.server_time.specs.internal.Walks.{MayGoOn}
use Rattle.server_time.proofs.Next.{all_are}
use Rattle.server_time.proofs.Untold.{untold}

-- ---- records of the core, each made in one place

more_go_on : {S : Type 0} (goes_on : S → Type 0) (count since : S → ℕ) (few most moment : ℕ) (e : Entry (ClientState S)) → few ≤ most
    → GoesOn goes_on count since few moment e → GoesOn goes_on count since most moment e
more_go_on goes_on count since few most moment e more h = record { session = h.session; few = omega (arith, h.few, more); past = h.past }

-- what holds of a core, where it holds of its clients and its numbers
is_sound : {S : Type 0} (goes_on : S → Type 0) (count since : S → ℕ) (core : ServerCore S)
    → AllByRecursion (GoesOn goes_on count since (core.events + 1) core.moment.0) (entries_of core.clients) → most_of core.clients ≤ 4096
    → admitted_by core.clients ≤ core.events → core.connections ≤ 2 ^ 13 * core.events → AreTimersFor core.settings.timers → core.count_interval ≡ 0 → core.moment.0 ≤ 2 ^ 52
    → IsSound goes_on count since core
is_sound goes_on count since core sessions most admitted connections timers no_counts late = record {
  sessions = sessions;
  most = most;
  admitted = admitted;
  connections = connections;
  timers = timers;
  no_counts = no_counts;
  late = late;
}

-- ---- lists

all_go : {S : Type 0} (goes_on : S → Type 0) (count since : S → ℕ) (few most moment : ℕ) → few ≤ most → (es : List (Entry (ClientState S)))
    → AllByRecursion (GoesOn goes_on count since few moment) es → AllByRecursion (GoesOn goes_on count since most moment) es
all_go goes_on count since few most moment more [] all = tt
all_go goes_on count since few most moment more (e ∷ es) all =
    (more_go_on goes_on count since few most moment e more all.0, all_go goes_on count since few most moment more es all.1)

-- sessions that go on, and were told no moment behind another one
told_by : {S : Type 0} (goes_on : S → Type 0) (count since : S → ℕ) (most moment other : ℕ) (es : List (Entry (ClientState S)))
    → AllByRecursion (GoesOn goes_on count since most moment) es → AllByRecursion (λ (e : Entry (ClientState S)). since e.value.session ≤ other) es
    → AllByRecursion (GoesOn goes_on count since most other) es
told_by goes_on count since most moment other [] all told = tt
told_by goes_on count since most moment other (e ∷ es) all told =
    (record { session = all.0.session; few = all.0.few; past = told.0 }, told_by goes_on count since most moment other es all.1 told.1)

none_later : {S : Type 0} (goes_on : S → Type 0) (count since : S → ℕ) (most moment : ℕ) (es : List (Entry (ClientState S)))
    → AllByRecursion (GoesOn goes_on count since most moment) es → AllByRecursion (λ (e : Entry (ClientState S)). since e.value.session ≤ moment) es
none_later goes_on count since most moment [] all = tt
none_later goes_on count since most moment (e ∷ es) all = (all.0.past, none_later goes_on count since most moment es all.1)

-- ---- the core

-- taking memory keeps the rest
pub rest_same : {S : Type 0} (means : S → Peer → Type 0) (goes_on : S → Type 0) (count since : S → ℕ) (before after : ServerCore S)
    → StaysSame means goes_on count since before after → KeepsRest before after
rest_same means goes_on count since before after s = record {
  settings = ap (λ (core : ServerCore _). core.settings) s.others;
  moment = ap (λ (core : ServerCore _). core.moment) s.others;
  events = ap (λ (core : ServerCore _). core.events) s.others;
  count_interval = ap (λ (core : ServerCore _). core.count_interval) s.others;
  held = ap (λ (core : ServerCore _). core.held) s.others;
  is_stopped = ap (λ (core : ServerCore _). core.is_stopped) s.others;
}

module _ {S : Type 0} (goes_on : S → Type 0) (count since : S → ℕ) (before : ServerCore S) (h : IsSoundAhead goes_on count since before) where
  -- few enough sessions to take memory
  pub may_ready : before.events ≤ 2 ^ 48 → AllByRecursion (GoesOn goes_on count since (2 ^ 63) before.moment.0) (entries_of before.clients)
  may_ready few = all_go goes_on count since (before.events - 1 + 1) (2 ^ 63) before.moment.0 (omega (arith, few)) (entries_of before.clients) h.sessions

  module _ (means : S → Peer → Type 0) (after : ServerCore S) (s : StaysSame means goes_on count since before after) where
    events_same : after.events ≡ before.events
    events_same = ap (λ (core : ServerCore S). core.events) s.others

    connections_same : after.connections ≡ before.connections
    connections_same = ap (λ (core : ServerCore S). core.connections) s.others

    -- the sessions after it
    sessions_after : (most : ℕ) → before.events - 1 + 1 ≤ most → AllByRecursion (GoesOn goes_on count since most after.moment.0) (entries_of after.clients)
    sessions_after most more =
        subst (λ (moment : ℕ). AllByRecursion (GoesOn goes_on count since most moment) (entries_of after.clients))
        (sym (ap (λ (core : ServerCore S). core.moment.0) s.others))
        (all_go goes_on count since (before.events - 1 + 1) most before.moment.0 more (entries_of after.clients)
        (s.sessions (before.events - 1 + 1) before.moment.0 h.sessions))

    -- no session was told a later moment
    pub still_told : StaysTold since before after
    still_told moment told =
        none_later goes_on count since (before.events - 1 + 1) moment (entries_of after.clients)
        (s.sessions (before.events - 1 + 1) moment (told_by goes_on count since (before.events - 1 + 1) before.moment.0 moment (entries_of before.clients) h.sessions told))

    most_after : most_of after.clients ≤ 4096
    most_after = omega (arith, h.most, s.most)

    timers_after : AreTimersFor after.settings.timers
    timers_after = subst (λ settings. AreTimersFor settings.timers) (sym (ap (λ (core : ServerCore S). core.settings) s.others)) h.timers

    no_counts_after : after.count_interval ≡ 0
    no_counts_after = ap (λ (core : ServerCore S). core.count_interval) s.others ∙ h.no_counts

    late_after : after.moment.0 ≤ 2 ^ 52
    late_after = subst (λ (moment : Moment). moment.0 ≤ 2 ^ 52) (sym (ap (λ (core : ServerCore S). core.moment) s.others)) h.late

    -- memory was taken, and nothing was done
    pub still_ahead : IsSoundAhead goes_on count since after
    still_ahead =
        is_sound goes_on count since (record after { events = after.events - 1 }) (sessions_after (after.events - 1 + 1) (omega (arith, events_same))) most_after
        (omega (arith, h.admitted, s.admitted, events_same)) (omega (arith, h.connections, connections_same, events_same))
        timers_after no_counts_after late_after

    pub sound_now : IsSound goes_on count since after
    sound_now =
        is_sound goes_on count since after (sessions_after (after.events + 1) (omega (arith, events_same))) most_after
        (omega (arith, h.admitted, s.admitted, events_same)) (omega (arith, h.connections, connections_same, events_same))
        timers_after no_counts_after late_after

    none_next : (staged : List Datagram) (turn : ℕ) → staged ≡ [] → IsNext staged turn 0
    none_next staged turn none = subst (λ staged. IsNext staged turn 0) (sym none) tt

    -- memory was taken, and time may pass for all clients
    pub may_begin : (is_ready : S → Kind → Bool → ℕ → ℕ → Type 0) (out : Contents) → HasMemory is_ready after out → 1 ≤ before.events → before.events ≤ 2 ^ 48
        → length (entries_of after.clients) ≤ most_of after.clients → out.staged ≡ [] → MayGoOn is_ready goes_on count since 0 after out
    may_begin is_ready out m counted few here alone =
        let every : from_on 0 (entries_of after.clients) ≡ entries_of after.clients = all_are after.clients in
        record {
          sound = sound_now;
          sessions = subst (AllByRecursion (GoesOn goes_on count since after.events after.moment.0)) (sym every)
              (sessions_after after.events (omega (arith, counted, events_same)));
          opens = omega (arith, ap (λ es. length es) every, here, most_after, h.connections, connections_same, counted, events_same);
          events = omega (arith, few, events_same);
          next = none_next out.staged after.turn.0 alone;
          effects = m.effects;
          bytes = m.bytes;
          ready = subst (λ es. AreReady is_ready es m.effects m.bytes) (sym every) m.ready;
          room = m.room;
        }

-- ---- courses

-- memory was taken, and the course is as far as it was
pub course_same : {S : Type 0} (means : S → Peer → Type 0) (goes_on : S → Type 0) (count since : S → ℕ) (core after : ServerCore S) (old new : Contents)
    → StaysSame means goes_on count since core after → Holds new old.effects old.staged → (before : List Action) (c : Course) → CourseStands means before core old c
    → CourseStands means before after new c
course_same means goes_on count since core after old new s holds before c h =
    let still = s.same before old c h in
    record { table = still.table; outbox = (holds.0 ∙ still.outbox.0, holds.1 ∙ still.outbox.1); in_turn = still.in_turn }

-- time has passed for all clients, which is all where nothing is told of bytes
pub all_ticked : {S : Type 0} (means : S → Peer → Type 0) (before : List Action) (core after : ServerCore S) (old new : Contents) (c : Course) → CourseStands means before core old c
    → core.count_interval ≡ 0 → CourseStands means before after new (clients_ticked (length c.table.clients) 0 c) → CourseStands means before after new (tick c)
all_ticked means before core after old new c h none ticked =
    subst (CourseStands means before after new) (sym (untold c (sym h.table.count_interval ∙ none))) ticked
