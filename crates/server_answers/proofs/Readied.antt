-- What is taken ahead leaves a core as it is.
use Rattle.std.proofs.Common.{◌≡◌, ℕ, zero, suc, ◌+◌, ◌-◌, ◌^◌, ◌<◌, ◌≤◌, Bool, true, false, List, [], ◌∷◌, length, map, slice_get, option_map, Option, Some, None, is_some, refl, sym, ap, subst, ◌∙◌, arith}
use Rattle.std.specs.Prelude.{unwrap_or, IfOk, MatchResult, OnErr, OnOk, Result, Ok, Err}
use Rattle.std.specs.List.{AllByRecursion}
use Rattle.std.proofs.lemmas.Bool.{false≢true}
use Rattle.vpn_base.specs.declared.address.Ip4.{Ip4}
use Rattle.vpn_base.specs.declared.names.Cid.{Cid}
use Rattle.vpn_links.specs.Actions.{Action, Contents, Holds}
use Rattle.vpn_links.specs.declared.events.Kind.{Kind}
use Rattle.address_pool.specs.declared.Pool.{Pool}
use Rattle.client_table.specs.declared.table.ClientTable.{ClientTable}
use Rattle.client_table.specs.Changes as table
use Rattle.client_table.specs.Entries.{Entry}
use Rattle.client_table.specs.Finding.{has_number}
use Rattle.client_table.specs.Tables.{entries_of}
use Rattle.peer_table.specs.Peer.{Peer}
use Rattle.peer_table.specs.Places.{changed_at}
use Rattle.route_table.specs.Learned.{Contents as Routes}
use Rattle.server_table.specs.Courses.{Course, Staged}
use Rattle.server_table.specs.Table.{Client, Table}
use Rattle.server_state.specs.declared.client.ClientState.{ClientState}
use Rattle.server_state.specs.declared.state.ServerCore.{ServerCore}
use Rattle.server_state.specs.Core.{AreInTurn, CoreStands, CourseStands, FileStands, GoesOn, IsSoundAhead, NoneIsLater, StateStands, StaysTold}
use Rattle.server_state.specs.Places.{IsChangedAt, IsThere}
use Rattle.server_engine.specs.Calls.{IsNamedAt, IsReadyAt, MayExchangeNow}
use Rattle.server_answers.specs.internal.Ahead.{IsTurnAt, StaysSame}

-- ---- lists

changed_id : {X : Type 0} (n : ℕ) (xs : List X) → changed_at n (λ (x : X). x) xs ≡ xs
changed_id n [] = refl
changed_id zero (x ∷ xs) = refl
changed_id (suc n) (x ∷ xs) = ap (λ ys. x ∷ ys) (changed_id n xs)

length_same : {X : Type 0} (f : X → X) (i : ℕ) (xs : List X) → length (table.changed_at i f xs) ≡ length xs
length_same f i [] = refl
length_same f zero (x ∷ xs) = refl
length_same f (suc i) (x ∷ xs) = ap suc (length_same f i xs)

place_same : {V : Type 0} (n : ℕ) (w : V) (i : ℕ) (es : List (Entry V)) → table.place_of n (table.changed_at i (table.with_value w) es) ≡ table.place_of n es
place_same n w i [] = refl
place_same n w zero (e ∷ es) = refl
place_same n w (suc i) (e ∷ es) = ap (table.earlier (has_number n e.key)) (place_same n w i es)

value_set : {V : Type 0} (w v : V) (i : ℕ) (es : List (Entry V)) → option_map (λ e. e.value) (slice_get (table.changed_at i (table.with_value w) es) i) ≡ Some v → w ≡ v
value_set w v i [] there = absurd (false≢true (ap is_some there))
value_set w v zero (e ∷ es) there = ap (λ o. unwrap_or o w) there
value_set w v (suc i) (e ∷ es) there = value_set w v i es there

all_at : {X : Type 0} (P : X → Type 0) (xs : List X) (i : ℕ) (v : X) → AllByRecursion P xs → slice_get xs i ≡ Some v → P v
all_at P [] i v all there = absurd (false≢true (ap is_some there))
all_at P (x ∷ xs) zero v all there = subst P (ap (λ (o : Option _). unwrap_or o x) there) all.0
all_at P (x ∷ xs) (suc i) v all there = all_at P xs i v all.1 there

all_changed : {X : Type 0} (P : X → Type 0) (f : X → X) (xs : List X) (i : ℕ) → AllByRecursion P xs → ((x : X) → slice_get xs i ≡ Some x → P (f x))
    → AllByRecursion P (table.changed_at i f xs)
all_changed P f [] i all new = all
all_changed P f (x ∷ xs) zero all new = (new x refl, all.1)
all_changed P f (x ∷ xs) (suc i) all new = (all.0, all_changed P f xs i all.1 new)

pub value_is : {V : Type 0} (o : Option (Entry V)) (e : Entry V) (v : V) → o ≡ Some e → option_map (λ e. e.value) o ≡ Some v → e.value ≡ v
value_is o e v there is = ap (λ o. unwrap_or o v) (sym (ap (λ o. option_map (λ e. e.value) o) there) ∙ is)

value_some : {V : Type 0} (o : Option (Entry V)) (v : V) (P : V → Type 0) → option_map (λ e. e.value) o ≡ Some v → ((e : Entry V) → o ≡ Some e → P e.value) → P v
value_some None v P is into = absurd (false≢true (ap is_some is))
value_some (Some e) v P is into = subst P (ap (λ o. unwrap_or o v) is) (into e refl)

map_none : {X Y : Type 0} (f : X → Y) (xs : List X) → [] ≡ map f xs → xs ≡ []
map_none f [] is = refl
map_none f (x ∷ xs) is = absurd (false≢true (ap is_there is))
  where
    is_there : {Z : Type 0} → List Z → Bool
    is_there [] = false
    is_there (z ∷ zs) = true

-- ---- one session has taken memory

few_enough : (count events : ℕ) → count ≤ events - 1 + 1 → events ≤ 2 ^ 48 → count < 2 ^ 64 - 1
few_enough count events few most = omega (arith, few, most)

-- a session goes on, and has few enough key sessions
pub record MayReady {S : Type 0} (goes_on : S → Type 0) (count : S → ℕ) (v : ClientState S) : Type 0 where
  pub goes : goes_on v.session
  pub few : count v.session < 2 ^ 64 - 1

pub may_ready : {S : Type 0} (goes_on : S → Type 0) (count since : S → ℕ) (core : ServerCore S) (i : ℕ) (v : ClientState S)
    → option_map (λ e. e.value) (slice_get (entries_of core.clients) i) ≡ Some v → core.events ≤ 2 ^ 48 → IsSoundAhead goes_on count since core → MayReady goes_on count v
may_ready goes_on count since core i v at most h =
    value_some (slice_get (entries_of core.clients) i) v (MayReady goes_on count) at
    (λ e there.
    let g = all_at (GoesOn goes_on count since (core.events - 1 + 1) core.moment.0) (entries_of core.clients) i e h.sessions there in
    record { goes = g.session; few = few_enough (count e.value.session) core.events g.few most })

module _ {S : Type 0} (means : S → Peer → Type 0) (since : S → ℕ) (core : ServerCore S) (i : ℕ) (v w : ClientState S)
    (at : option_map (λ e. e.value) (slice_get (entries_of core.clients) i) ≡ Some v) (ct : ClientTable (ClientState S)) (is : IsChangedAt core i (table.with_value w) ct)
    (turn : IsTurnAt core i) where
  pub turn_kept : IsTurnAt (record core { clients = ct }) i
  turn_kept = record {
    place = ap (table.place_of core.turn.0) is.entries_are ∙ place_same core.turn.0 w i (entries_of core.clients) ∙ turn.place;
    within = subst (λ n. i < n) (sym (ap (λ es. length es) is.entries_are ∙ length_same (table.with_value w) i (entries_of core.clients))) turn.within;
  }

  pub ready_then : (is_ready : S → Kind → Bool → ℕ → ℕ → Type 0) (kind : Kind) (effects bytes : ℕ) → is_ready w.session kind (is_some w.established) effects bytes
      → IsReadyAt is_ready (record core { clients = ct }) i kind effects bytes
  ready_then is_ready kind effects bytes ready u there =
      subst (λ (v : ClientState S). is_ready v.session kind (is_some v.established) effects bytes)
      (value_set w u i (entries_of core.clients) (ap (λ es. option_map (λ e. e.value) (slice_get es i)) (sym is.entries_are) ∙ there)) ready

  told_kept : since w.session ≡ since v.session → StaysTold since core (record core { clients = ct })
  told_kept same moment none =
      let early : Entry (ClientState S) → Type 0 = λ e. since e.value.session ≤ moment in
      let was : since v.session ≤ moment =
      value_some (slice_get (entries_of core.clients) i) v (λ u. since u.session ≤ moment) at (λ e there. all_at early (entries_of core.clients) i e none there) in
      subst (AllByRecursion early) (sym is.entries_are)
      (all_changed early (table.with_value w) (entries_of core.clients) i none (λ e there. subst (λ n. n ≤ moment) (sym same) was))

  module _ (same : (x : Client) → StateStands means v x → StateStands means w x) (file : w.file ≡ v.file)
      (there : (t : Table) → CoreStands means core t → IsThere means core t core.turn.0 i) where
    table_kept : (t : Table) → CoreStands means core t → CoreStands means (record core { clients = ct }) t
    table_kept t h =
        let l = there t h in
        let value = value_is (slice_get (entries_of core.clients) i) l.entry v l.entry_there at in
        subst (λ clients. CoreStands means (record core { clients = ct }) (record t { clients = clients })) (changed_id core.turn.0 t.clients)
        (l.changed ct (table.with_value w) (λ x. x) is l.here
        (record {
          number = l.stands.number;
          peer_id = l.stands.peer_id;
          address = l.stands.address;
          remote = l.stands.remote;
          name = l.stands.name;
          file = subst (λ f. FileStands l.client.session.name f l.client.file) (ap (λ (v : ClientState S). v.file) value ∙ sym file) l.stands.file;
          state = same l.client (subst (λ v. StateStands means v l.client) value l.stands.state);
        })
        (λ y. refl))

    -- the core stands for the same
    pub stays : (goes_on : S → Type 0) (count : S → ℕ) → since w.session ≡ since v.session
        → (IsSoundAhead goes_on count since core → IsSoundAhead goes_on count since (record core { clients = ct }))
        → StaysSame means goes_on count since core (record core { clients = ct })
    stays goes_on count told ahead = record {
      same = λ before out c h. record { table = table_kept c.table h.table; outbox = h.outbox; in_turn = h.in_turn };
      ahead = ahead;
      told = told_kept told;
      events = refl;
      turn = refl;
      mark = refl;
    }

-- ---- cores that stand for the same

module _ {S : Type 0} (means : S → Peer → Type 0) (goes_on : S → Type 0) (count since : S → ℕ) where
  pub stays_itself : (core : ServerCore S) → StaysSame means goes_on count since core core
  stays_itself core = record {
    same = λ before out c h. h;
    ahead = λ h. h;
    told = λ moment none. none;
    events = refl;
    turn = refl;
    mark = refl;
  }

  pub stays_on : (a b c : ServerCore S) → StaysSame means goes_on count since a b → StaysSame means goes_on count since b c → StaysSame means goes_on count since a c
  stays_on a b c first second = record {
    same = λ before out course h. second.same before out course (first.same before out course h);
    ahead = λ h. second.ahead (first.ahead h);
    told = λ moment none. second.told moment (first.told moment none);
    events = second.events ∙ first.events;
    turn = second.turn ∙ first.turn;
    mark = second.mark ∙ first.mark;
  }

  -- rows are made room for, and an address is held or given back
  pub stays_beside : (core next : ServerCore S) (routes : Routes) (pool : Pool) (held : Option Ip4) → next ≡ record core { routes = routes; pool = pool; held = held }
      → ((t : Table) → CoreStands means core t → CoreStands means next t) → StaysSame means goes_on count since core next
  stays_beside core next routes pool held only stands = record {
    same = λ before out c h.
        record {
          table = stands c.table h.table;
          outbox = h.outbox;
          in_turn = subst (λ (k : ServerCore S). AreInTurn k.turn.0 k.mark c.staged) (sym only) h.in_turn;
        };
    ahead = λ h.
        subst (λ (k : ServerCore S). IsSoundAhead goes_on count since k) (sym only)
        (record { sessions = h.sessions; most = h.most; admitted = h.admitted; connections = h.connections; timers = h.timers; no_counts = h.no_counts; late = h.late });
    told = λ moment none. subst (λ (k : ServerCore S). NoneIsLater since moment k) (sym only) none;
    events = ap (λ (k : ServerCore S). k.events) only;
    turn = ap (λ (k : ServerCore S). k.turn) only;
    mark = ap (λ (k : ServerCore S). k.mark) only;
  }

-- the clients are the same
module _ {S : Type 0} (core next : ServerCore S) (routes : Routes) (pool : Pool) (held : Option Ip4) (i : ℕ)
    (only : next ≡ record core { routes = routes; pool = pool; held = held }) where
  pub turn_beside : IsTurnAt core i → IsTurnAt next i
  turn_beside h = subst (λ (k : ServerCore S). IsTurnAt k i) (sym only) (record { place = h.place; within = h.within })

  pub ready_beside : (is_ready : S → Kind → Bool → ℕ → ℕ → Type 0) (kind : Kind) (effects bytes : ℕ) → IsReadyAt is_ready core i kind effects bytes
      → IsReadyAt is_ready next i kind effects bytes
  ready_beside is_ready kind effects bytes h = subst (λ (k : ServerCore S). IsReadyAt is_ready k i kind effects bytes) (sym only) h

  pub named_beside : IsNamedAt core i → IsNamedAt next i
  named_beside h = subst (λ (k : ServerCore S). IsNamedAt k i) (sym only) h

  pub exchange_beside : (may_exchange : S → Type 0) → MayExchangeNow may_exchange core i → MayExchangeNow may_exchange next i
  exchange_beside may_exchange h =
      subst (λ (k : ServerCore S). MayExchangeNow may_exchange k i) (sym only)
      (record { place = h.place; within = h.within; exchange = h.exchange; named = h.named })

-- ---- the turn of a client

module _ {S : Type 0} (means : S → Peer → Type 0) (core : ServerCore S) (turn : Cid) where
  pub table_turned : (t : Table) → CoreStands means core t → CoreStands means (record core { turn = turn }) t
  table_turned t h = record {
    settings = h.settings;
    key = h.key;
    clients = h.clients;
    admitted = h.admitted;
    most = h.most;
    routes = h.routes;
    pool = h.pool;
    queue = h.queue;
    moment = h.moment;
    connections = h.connections;
    bytes_in = h.bytes_in;
    bytes_out = h.bytes_out;
    count_interval = h.count_interval;
    counted_at = h.counted_at;
    is_stopped = h.is_stopped;
    events = h.events;
    last_taken = h.last_taken;
  }

  -- it begins where nothing is staged
  pub turn_begun : (before : List Action) (out : Contents) (c : Course) → CourseStands means before core out c → out.staged ≡ [] → core.mark ≡ 0
      → CourseStands means before (record core { turn = turn }) out c
  turn_begun before out c h alone mark = record {
    table = table_turned c.table h.table;
    outbox = h.outbox;
    in_turn = record {
      earlier = [];
      own = [];
      all = map_none (λ (s : Staged). s.datagram) c.staged (sym alone ∙ h.outbox.1);
      marked = sym mark;
      before = tt;
      behind = tt;
    };
  }

  pub ahead_turned : (goes_on : S → Type 0) (count since : S → ℕ) → IsSoundAhead goes_on count since core → IsSoundAhead goes_on count since (record core { turn = turn })
  ahead_turned goes_on count since h =
      record { sessions = h.sessions; most = h.most; admitted = h.admitted; connections = h.connections; timers = h.timers; no_counts = h.no_counts; late = h.late }

-- the outbox has what it had
pub outbox_same : {S : Type 0} (means : S → Peer → Type 0) (before : List Action) (core : ServerCore S) (out then : Contents) (c : Course) → CourseStands means before core out c
    → Holds then out.effects out.staged → CourseStands means before core then c
outbox_same means before core out then c h holds = record { table = h.table; outbox = (holds.0 ∙ h.outbox.0, holds.1 ∙ h.outbox.1); in_turn = h.in_turn }

-- what follows of what holds where there was memory
pub if_ok : {X E : Type 0} (P Q : X → Type 0) (r : Result X E) → IfOk r P → ((x : X) → P x → Q x) → IfOk r Q
if_ok P Q (Ok x) h into = into x h
if_ok P Q (Err e) h into = h

pub on_ok : {X E A B : Type 0} (r : Result X E) → OnOk r A → (A → B) → OnOk r B
on_ok (Ok x) h into = into h
on_ok (Err e) h into = tt

pub on_err : {X E A B : Type 0} (r : Result X E) → OnErr r A → (A → B) → OnErr r B
on_err (Ok x) h into = tt
on_err (Err e) h into = into h

-- what holds of either outcome
pub either : {X E A B C D : Type 0} (r : Result X E) → OnOk r A → OnErr r B → (A → C) → (B → D) → MatchResult r (λ _. C) (λ _. D)
either (Ok x) h k into onto = into h
either (Err e) h k into onto = onto k

pub both_err : {X E A B C : Type 0} (r : Result X E) → OnErr r A → OnErr r B → (A → B → C) → OnErr r C
both_err (Ok x) h k into = tt
both_err (Err e) h k into = into h k
