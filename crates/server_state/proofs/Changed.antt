-- A core of which one client was changed.
use Rattle.std.proofs.Common.{◌≡◌, ℕ, zero, suc, ◌+◌, ◌≤◌, true, cond, List, [], ◌∷◌, length, slice_get, option_map, Option, Some, None, refl, sym, ap, subst, ◌∙◌, arith}
use Rattle.std.specs.Prelude.{filter_map, unwrap_or, is_some}
use Rattle.std.specs.List.{AllByRecursion, cons_option}
use Rattle.std.proofs.lemmas.Bool.{false≢true}
use Rattle.address_pool.specs.Holds as pool
use Rattle.client_table.specs.declared.table.ClientTable.{ClientTable}
use Rattle.client_table.specs.Changes as table
use Rattle.client_table.specs.Entries.{Entry}
use Rattle.client_table.specs.Tables.{admitted_by, entries_of, most_of}
use Rattle.peer_table.specs.Peer.{Peer}
use Rattle.peer_table.specs.Places.{changed_at}
use Rattle.server_table.specs.Courses.{with_client}
use Rattle.server_table.specs.Establishing.{first_address, last_address}
use Rattle.server_table.specs.Lookups.{address_in, client_here, if_here}
use Rattle.server_table.specs.Table.{Client, Table}
use Rattle.server_state.specs.declared.client.ClientState.{ClientState}
use Rattle.server_state.specs.declared.state.ServerCore.{ServerCore}
use Rattle.server_state.specs.Core.{CoreStands, FileStands, GoesOn, IsOfClient, IsSound, StateStands, name_once, with_held}
use Rattle.server_state.specs.Places.{IsChangedAt, IsThere}
use Rattle.server_state.specs.Standing.{StandFrom}
use Rattle.server_state.proofs.Standing.{IsLocated, Located, located}

-- ---- lists

taken_same : (g : Client → Client) → ((y : Client) → address_in (g y) ≡ address_in y) → (n : ℕ) (clients : List Client)
    → filter_map address_in (changed_at n g clients) ≡ filter_map address_in clients
taken_same g same n [] = refl
taken_same g same zero (x ∷ clients) = ap (λ o. cons_option o (filter_map address_in clients)) (same x)
taken_same g same (suc n) (x ∷ clients) = ap (cons_option (address_in x)) (taken_same g same n clients)

pub length_same : {X : Type 0} (g : X → X) (n : ℕ) (xs : List X) → length (changed_at n g xs) ≡ length xs
length_same g n [] = refl
length_same g zero (x ∷ xs) = refl
length_same g (suc n) (x ∷ xs) = ap suc (length_same g n xs)

pub changed_id : {X : Type 0} (n : ℕ) (xs : List X) → changed_at n (λ (x : X). x) xs ≡ xs
changed_id n [] = refl
changed_id zero (x ∷ xs) = refl
changed_id (suc n) (x ∷ xs) = ap (λ ys. x ∷ ys) (changed_id n xs)

all_at : {X : Type 0} (P : X → Type 0) (xs : List X) (i : ℕ) (v : X) → AllByRecursion P xs → slice_get xs i ≡ Some v → P v
all_at P [] i v all there = absurd (false≢true (ap is_some there))
all_at P (x ∷ xs) zero v all there = subst P (ap (λ (o : Option _). unwrap_or o x) there) all.0
all_at P (x ∷ xs) (suc i) v all there = all_at P xs i v all.1 there

all_changed : {X : Type 0} (P : X → Type 0) (f : X → X) (xs : List X) (i : ℕ) → AllByRecursion P xs → ((v : X) → slice_get xs i ≡ Some v → P (f v))
    → AllByRecursion P (table.changed_at i f xs)
all_changed P f [] i all new = all
all_changed P f (x ∷ xs) zero all new = (new x refl, all.1)
all_changed P f (x ∷ xs) (suc i) all new = (all.0, all_changed P f xs i all.1 new)

-- ---- a client

pub with_state : {S : Type 0} (means : S → Peer → Type 0) (e : Entry (ClientState S)) (n : ℕ) (x y : Client) (w : ClientState S) → IsOfClient means e n x
    → y.peer_id ≡ x.peer_id → y.address ≡ x.address → y.session.remote ≡ x.session.remote → y.session.name ≡ x.session.name → y.established ≡ x.established
    → y.file ≡ x.file → w.file ≡ e.value.file → StateStands means w y → IsOfClient means (table.with_value w e) n y
with_state means e n x y w h peer_id address remote name established file kept state = record {
  number = h.number;
  peer_id = h.peer_id ∙ sym peer_id;
  address = h.address ∙ sym address;
  remote = remote ∙ h.remote;
  name = h.name ∙ sym (ap (λ n. name_once n y.established) name ∙ ap (name_once x.session.name) established);
  file = subst (λ known. FileStands known w.file y.file) (sym name)
      (subst (λ of. FileStands x.session.name w.file of) (sym file) (subst (λ of. FileStands x.session.name of x.file) (sym kept) h.file));
  state = state;
}

module _ {S : Type 0} (means : S → Peer → Type 0) (core : ServerCore S) where
  -- the client at the place of a number
  pub there_at : (t : Table) (m i : ℕ) → CoreStands means core t → table.place_of m (entries_of core.clients) ≡ Some i
      → Located (IsOfClient means) (λ e. e.key.number.0) (λ e n x is. is.number) m (entries_of core.clients) 0 m t.clients i
  there_at t m i h place =
      subst (λ o. IsLocated (IsOfClient means) (λ e. e.key.number.0) (λ e n x is. is.number) m (entries_of core.clients) 0 m t.clients o) place
      (located (IsOfClient means) (λ e. e.key.number.0) (λ e n x is. is.number) m t.clients (entries_of core.clients) 0 m (omega arith) h.clients)

  -- nobody, where there is no place
  pub nobody_at : (t : Table) (m : ℕ) → CoreStands means core t → table.place_of m (entries_of core.clients) ≡ None → client_here t m ≡ None
  unfolding client_here
  nobody_at t m h place =
      subst (λ o. IsLocated (IsOfClient means) (λ e. e.key.number.0) (λ e n x is. is.number) m (entries_of core.clients) 0 m t.clients o) place
      (located (IsOfClient means) (λ e. e.key.number.0) (λ e n x is. is.number) m t.clients (entries_of core.clients) 0 m (omega arith) h.clients)

  -- one client was changed at the core and at the table
  pub entry_changed : (t : Table) (m i : ℕ) (ct : ClientTable (ClientState S)) (f : Entry (ClientState S) → Entry (ClientState S)) (g : Client → Client)
      (h : CoreStands means core t)
      (l : Located (IsOfClient means) (λ e. e.key.number.0) (λ e n x is. is.number) m (entries_of core.clients) 0 m t.clients i)
      → entries_of ct ≡ table.changed_at i f (entries_of core.clients) → admitted_by ct ≡ admitted_by core.clients → most_of ct ≡ most_of core.clients
      → (g l.client).is_here ≡ true → IsOfClient means (f l.entry) m (g l.client) → ((y : Client) → address_in (g y) ≡ address_in y)
      → CoreStands means (record core { clients = ct }) (with_client m g t)
  entry_changed t m i ct f g h l is admitted most here of same = record {
    settings = h.settings;
    key = h.key;
    clients = subst (λ es. StandFrom (IsOfClient means) es 0 (changed_at m g t.clients)) (sym is) (l.changed f g here of);
    admitted = admitted ∙ h.admitted ∙ sym (length_same g m t.clients);
    most = most ∙ h.most;
    routes = h.routes;
    pool = subst (λ taken. pool.Holds core.pool (record { first = first_address t.settings; last = last_address t.settings; taken = with_held core.held taken }))
        (sym (taken_same g same m t.clients)) h.pool;
    queue = h.queue;
    moment = h.moment;
    connections = h.connections;
    bytes_in = h.bytes_in;
    bytes_out = h.bytes_out;
    count_interval = h.count_interval;
    counted_at = h.counted_at;
    is_stopped = h.is_stopped;
    events = h.events;
    last_taken = h.last_taken;
  }

  -- the same with another value
  pub client_changed : (t : Table) (m i : ℕ) (ct : ClientTable (ClientState S)) (w : ClientState S) (g : Client → Client) (h : CoreStands means core t)
      (l : Located (IsOfClient means) (λ e. e.key.number.0) (λ e n x is. is.number) m (entries_of core.clients) 0 m t.clients i)
      → entries_of ct ≡ table.changed_at i (table.with_value w) (entries_of core.clients) → admitted_by ct ≡ admitted_by core.clients → most_of ct ≡ most_of core.clients
      → (g l.client).is_here ≡ true → IsOfClient means (table.with_value w l.entry) m (g l.client) → ((y : Client) → address_in (g y) ≡ address_in y)
      → CoreStands means (record core { clients = ct }) (with_client m g t)
  client_changed t m i ct w g h l is admitted most here of same = entry_changed t m i ct (table.with_value w) g h l is admitted most here of same

  -- what the law says of a client at its place
  pub is_there : (t : Table) (m i : ℕ) → CoreStands means core t → table.place_of m (entries_of core.clients) ≡ Some i → IsThere means core t m i
  unfolding client_here
  is_there t m i h place =
      let l = there_at t m i h place in
      record {
        client = l.client;
        entry = l.entry;
        entry_there = l.entry_there;
        client_there = ap if_here l.client_there ∙ ap (λ b. cond b (Some l.client) None) l.here;
        stands = l.stands;
        here = l.here;
        standing = l.changed;
        changed = λ ct f g is here of same. entry_changed t m i ct f g h l is.entries_are is.admitted_is is.most_is here of same;
      }

  -- the same with nothing changed at the table
  pub client_kept : (t : Table) (m i : ℕ) (ct : ClientTable (ClientState S)) (w : ClientState S) (h : CoreStands means core t)
      (l : Located (IsOfClient means) (λ e. e.key.number.0) (λ e n x is. is.number) m (entries_of core.clients) 0 m t.clients i)
      → entries_of ct ≡ table.changed_at i (table.with_value w) (entries_of core.clients) → admitted_by ct ≡ admitted_by core.clients → most_of ct ≡ most_of core.clients
      → w.file ≡ l.entry.value.file → StateStands means w l.client → CoreStands means (record core { clients = ct }) t
  client_kept t m i ct w h l is admitted most kept state =
      subst (λ clients. CoreStands means (record core { clients = ct }) (record t { clients = clients })) (changed_id m t.clients)
      (client_changed t m i ct w (λ x. x) h l is admitted most l.here
      (with_state means l.entry m l.client l.client w l.stands refl refl refl refl refl refl kept state) (λ y. refl))

  -- more bytes were sealed
  pub with_bytes_out : (t : Table) (a b : ℕ) → CoreStands means core t → a ≡ b → CoreStands means (record core { bytes_out = a }) (record t { bytes_out = b })
  with_bytes_out t a b h is = record {
    settings = h.settings;
    key = h.key;
    clients = h.clients;
    admitted = h.admitted;
    most = h.most;
    routes = h.routes;
    pool = h.pool;
    queue = h.queue;
    moment = h.moment;
    connections = h.connections;
    bytes_in = h.bytes_in;
    bytes_out = is;
    count_interval = h.count_interval;
    counted_at = h.counted_at;
    is_stopped = h.is_stopped;
    events = h.events;
    last_taken = h.last_taken;
  }

-- ---- what holds of every core

value_of : {V : Type 0} (o : Option (Entry V)) (e : Entry V) (v : V) → o ≡ Some e → option_map (λ e. e.value) o ≡ Some v → e.value ≡ v
value_of o e v there is = ap (λ o. unwrap_or o v) (sym (ap (λ o. option_map (λ e. e.value) o) there) ∙ is)

-- it does with another value at a place, whose session goes on with as many key sessions
pub sound_changed : {S : Type 0} (goes_on : S → Type 0) (count since : S → ℕ) (core : ServerCore S) (ct : ClientTable (ClientState S)) (i : ℕ) (v w : ClientState S)
    → IsSound goes_on count since core → option_map (λ e. e.value) (slice_get (entries_of core.clients) i) ≡ Some v → goes_on w.session → count w.session ≡ count v.session
    → (since v.session ≤ core.moment.0 → since w.session ≤ core.moment.0) → IsChangedAt core i (table.with_value w) ct → IsSound goes_on count since (record core { clients = ct })
sound_changed goes_on count since core ct i v w sound there goes same later is = record {
  sessions = subst (AllByRecursion (GoesOn goes_on count since (core.events + 1) core.moment.0)) (sym is.entries_are)
      (all_changed (GoesOn goes_on count since (core.events + 1) core.moment.0) (table.with_value w) (entries_of core.clients) i sound.sessions
      (λ e at. record {
        session = goes;
        few = subst (λ k. k ≤ core.events + 1) (sym (same ∙ sym (ap (λ v. count v.session) (value_of (slice_get (entries_of core.clients) i) e v at there))))
            (all_at (GoesOn goes_on count since (core.events + 1) core.moment.0) (entries_of core.clients) i e sound.sessions at).few;
        past = later (subst (λ (v : ClientState _). since v.session ≤ core.moment.0) (value_of (slice_get (entries_of core.clients) i) e v at there)
            (all_at (GoesOn goes_on count since (core.events + 1) core.moment.0) (entries_of core.clients) i e sound.sessions at).past);
      }));
  most = subst (λ k. k ≤ 4096) (sym is.most_is) sound.most;
  admitted = subst (λ k. k ≤ core.events) (sym is.admitted_is) sound.admitted;
  connections = sound.connections;
  timers = sound.timers;
  no_counts = sound.no_counts;
  late = sound.late;
}
