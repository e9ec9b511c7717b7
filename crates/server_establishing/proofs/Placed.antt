-- A client has an address in the tunnel.
use Rattle.std.proofs.Common.{◌≡◌, ℕ, zero, suc, ◌+◌, ◌<◌, ◌≤◌, ◌==◌, Bool, true, false, cond, List, [], ◌∷◌, length, slice_get, option_map, Option, Some, None, refl, sym, ap, subst, ◌∙◌, arith}
use Rattle.std.specs.Prelude.{filter_map, is_some, unwrap_or, count_by}
use Rattle.std.specs.List.{AllByRecursion, cons_option}
use Rattle.std.proofs.lemmas.Bool.{false≢true}
use Rattle.std.proofs.lemmas.List.Sums.{sum_by-cons}
use Rattle.vpn_base.specs.declared.address.Ip4.{Ip4}
use Rattle.vpn_base.specs.declared.names.Moment.{Moment}
use Rattle.address_pool.specs.declared.Pool.{Pool}
use Rattle.address_pool.specs.Holds.{Holds as HoldsTakings}
use Rattle.client_table.specs.declared.table.ClientTable.{ClientTable}
use Rattle.client_table.specs.Changes as table
use Rattle.client_table.specs.Entries.{Entry}
use Rattle.client_table.specs.Tables.{admitted_by, entries_of, most_of}
use Rattle.peer_table.specs.Peer.{Peer}
use Rattle.peer_table.specs.Places.{changed_at}
use Rattle.server_table.specs.Courses.{with_client}
use Rattle.server_table.specs.Establishing.{with_address}
use Rattle.server_table.specs.Lookups.{address_in, client_here, if_here}
use Rattle.server_table.specs.Table.{Client, Established, Table}
use Rattle.server_state.specs.declared.client.ClientState.{ClientState}
use Rattle.server_state.specs.declared.state.ServerCore.{ServerCore}
use Rattle.server_state.specs.Core.{CoreStands, FileStands, GoesOn, IsOfClient, IsSound, StateStands, with_held}
use Rattle.server_state.specs.Endings.{IsSoundBut}
use Rattle.server_state.specs.Places.{IsThere}
use Rattle.server_state.specs.Standing.{StandFrom}

-- ---- lists

pub twice : {X : Type 0} (f g : X → X) (i : ℕ) (xs : List X) → table.changed_at i f (table.changed_at i g xs) ≡ table.changed_at i (λ x. f (g x)) xs
twice f g i [] = refl
twice f g zero (x ∷ xs) = refl
twice f g (suc i) (x ∷ xs) = ap (λ l. x ∷ l) (twice f g i xs)

pub as_long : {X : Type 0} (f : X → X) (i : ℕ) (xs : List X) → length (table.changed_at i f xs) ≡ length xs
as_long f i [] = refl
as_long f zero (x ∷ xs) = refl
as_long f (suc i) (x ∷ xs) = ap suc (as_long f i xs)

pub as_many : {X : Type 0} (f : X → X) (i : ℕ) (xs : List X) → length (changed_at i f xs) ≡ length xs
as_many f i [] = refl
as_many f zero (x ∷ xs) = refl
as_many f (suc i) (x ∷ xs) = ap suc (as_many f i xs)

pub some_is : {X : Type 0} (x y : X) → Some x ≡ Some y → x ≡ y
some_is x y is = ap (λ (o : Option _). unwrap_or o x) is

-- what is the same of two items is the same of the one at a place
pub seen_at : {X Y : Type 0} (f : X → X) (see : X → Y) → ((x : X) → see (f x) ≡ see x) → (i : ℕ) (xs : List X)
    → option_map see (slice_get (table.changed_at i f xs) i) ≡ option_map see (slice_get xs i)
seen_at f see same i [] = refl
seen_at f see same zero (x ∷ xs) = ap Some (same x)
seen_at f see same (suc i) (x ∷ xs) = seen_at f see same i xs

all_at : {X : Type 0} (P : X → Type 0) (xs : List X) (i : ℕ) (v : X) → AllByRecursion P xs → slice_get xs i ≡ Some v → P v
all_at P [] i v all there = absurd (false≢true (ap is_some there))
all_at P (x ∷ xs) zero v all there = subst P (ap (λ (o : Option _). unwrap_or o x) there) all.0
all_at P (x ∷ xs) (suc i) v all there = all_at P xs i v all.1 there

all_changed : {X : Type 0} (P : X → Type 0) (f : X → X) (xs : List X) (i : ℕ) → AllByRecursion P xs → ((v : X) → slice_get xs i ≡ Some v → P v → P (f v))
    → AllByRecursion P (table.changed_at i f xs)
all_changed P f [] i all step = all
all_changed P f (x ∷ xs) zero all step = (step x refl all.0, all.1)
all_changed P f (x ∷ xs) (suc i) all step = (all.0, all_changed P f xs i all.1 step)

-- ---- a client that is here

here_there : (o : Option Client) (x : Client) → if_here o ≡ Some x → o ≡ Some x
here_there None x is = absurd (false≢true (ap is_some is))
here_there (Some y) x is = by_here y.is_here is
  where
    by_here : (b : Bool) → cond b (Some y) None ≡ Some x → Some y ≡ Some x
    by_here true is = is
    by_here false is = absurd (false≢true (ap is_some is))

pub client_there : (t : Table) (m : ℕ) (x : Client) → client_here t m ≡ Some x → slice_get t.clients m ≡ Some x
unfolding client_here
client_there t m x is = here_there (slice_get t.clients m) x is

-- ---- addresses

behind_one : (k l m n : ℕ) → m ≡ l + n → k + m ≡ l + (k + n)
behind_one k l m n is = omega (arith, is)

count_behind : (p : Ip4 → Bool) (a : Ip4) (o : Option Ip4) (xs ys : List Ip4) → count_by p xs ≡ count_by p (a ∷ ys)
    → count_by p (cons_option o xs) ≡ count_by p (a ∷ cons_option o ys)
count_behind p a None xs ys is = is
count_behind p a (Some b) xs ys is =
    let one : Ip4 → ℕ = λ b. cond (p b) 1 0 in
    sum_by-cons one b xs ∙ behind_one (one b) (one a) (count_by p xs) (count_by p ys) (is ∙ sum_by-cons one a ys)
    ∙ sym (sum_by-cons one a (b ∷ ys) ∙ ap (λ n. one a + n) (sum_by-cons one b ys))

count_first : (p : Ip4 → Bool) (a : Ip4) (o q : Option Ip4) (ys : List Ip4) → o ≡ None → q ≡ Some a → count_by p (cons_option q ys) ≡ count_by p (a ∷ cons_option o ys)
count_first p a o q ys none some =
    ap (λ q. count_by p (cons_option q ys)) some ∙ sym (ap (λ o. count_by p (a ∷ cons_option o ys)) none)

pub count_more : (p : Ip4 → Bool) (a : Ip4) (g : Client → Client) (x : Client) (clients : List Client) (m : ℕ) → slice_get clients m ≡ Some x
    → address_in x ≡ None → address_in (g x) ≡ Some a → count_by p (filter_map address_in (changed_at m g clients)) ≡ count_by p (a ∷ filter_map address_in clients)
count_more p a g x [] m there none some = absurd (false≢true (ap is_some there))
count_more p a g x (y ∷ clients) zero there none some =
    let is : y ≡ x = some_is y x there in
    count_first p a (address_in y) (address_in (g y)) (filter_map address_in clients) (ap address_in is ∙ none) (ap (λ y. address_in (g y)) is ∙ some)
count_more p a g x (y ∷ clients) (suc m) there none some =
    count_behind p a (address_in y) (filter_map address_in (changed_at m g clients)) (filter_map address_in clients) (count_more p a g x clients m there none some)

neither : (b : Bool) (o : Option Ip4) → o ≡ None → cond b o None ≡ None
neither true o none = none
neither false o none = refl

pub none_in : (x : Client) → x.established ≡ None → address_in x ≡ None
none_in x none = neither x.is_here (option_map (λ (e : Established). e.address) x.established) (ap (option_map (λ (e : Established). e.address)) none)

pool_step : (first last a : Ip4) (held : Option Ip4) (x : Client) (g : Client → Client) (clients : List Client) (m : ℕ) (pool : Pool) → held ≡ Some a
    → slice_get clients m ≡ Some x → address_in x ≡ None → address_in (g x) ≡ Some a
    → HoldsTakings pool (record { first = first; last = last; taken = with_held held (filter_map address_in clients) })
    → HoldsTakings pool (record { first = first; last = last; taken = filter_map address_in (changed_at m g clients) })
pool_step first last a held x g clients m pool is there none some h =
    let was = subst (λ o. HoldsTakings pool (record { first = first; last = last; taken = with_held o (filter_map address_in clients) })) is h in
    record {
      begins = was.begins;
      ends = was.ends;
      counts = λ n. was.counts n ∙ sym (count_more (λ b. b.0 == n) a g x clients m there none some);
    }

-- ---- the core

-- the value of a client with an address
abbrev pub placed_value : {S : Type 0} → Ip4 → Moment → ClientState S → ClientState S
placed_value a now v = record v { established = Some (a, now); sealed_at = now }

module _ {S : Type 0} (means : S → Peer → Type 0) (core : ServerCore S) (m i : ℕ) (v : ClientState S) (name : List ℕ) (a : Ip4) where
  abbrev pub change : Entry (ClientState S) → Entry (ClientState S)
  change e = table.with_value (placed_value a core.moment v) (table.with_key (table.with_name name) e)

  of_client : (t : Table) (e : Entry (ClientState S)) (x : Client) → e.value ≡ v → x.session.name ≡ Some name → core.moment.0 ≡ t.moment → IsOfClient means e m x
      → IsOfClient means (change e) m (with_address a t.moment x)
  of_client t e x is named moment h =
      let state = subst (λ v. StateStands means v x) is h.state in
      record {
        number = h.number;
        peer_id = h.peer_id;
        address = h.address;
        remote = h.remote;
        name = sym named;
        file = subst (λ (v : ClientState S). FileStands x.session.name v.file x.file) is h.file;
        state = record {
          session = state.session;
          established = ap (λ since. Some (record { address = a; since = since })) moment;
          heard = state.heard;
          sealed_at = moment;
          bytes_in = state.bytes_in;
          bytes_out = state.bytes_out;
        };
      }

  pub placed : (t : Table) (ct : ClientTable (ClientState S)) (h : CoreStands means core t) (l : IsThere means core t m i) (x : Client) → client_here t m ≡ Some x
      → x.established ≡ None → x.session.name ≡ Some name
      → option_map (λ e. e.value) (slice_get (entries_of core.clients) i) ≡ Some v → entries_of ct ≡ table.changed_at i change (entries_of core.clients)
      → admitted_by ct ≡ admitted_by core.clients → most_of ct ≡ most_of core.clients → core.held ≡ Some a
      → CoreStands means (record core { clients = ct; held = None }) (with_client m (with_address a t.moment) t)
  placed t ct h l x there none named value is admitted most held =
      let same : l.client ≡ x = some_is l.client x (sym l.client_there ∙ there) in
      let value_is : l.entry.value ≡ v = ap (λ o. unwrap_or o v) (sym (ap (λ o. option_map (λ e. e.value) o) l.entry_there) ∙ value) in
      let g : Client → Client = with_address a t.moment in
      record {
        settings = h.settings;
        key = h.key;
        clients = subst (λ es. StandFrom (IsOfClient means) es 0 (changed_at m g t.clients)) (sym is)
            (l.standing change g l.here (of_client t l.entry l.client value_is (ap (λ (x : Client). x.session.name) same ∙ named) h.moment l.stands));
        admitted = admitted ∙ h.admitted ∙ sym (as_many g m t.clients);
        most = most ∙ h.most;
        routes = h.routes;
        pool = pool_step _ _ a core.held l.client g t.clients m core.pool held (client_there t m l.client l.client_there)
            (none_in l.client (ap (λ (x : Client). x.established) same ∙ none)) (ap (λ b. cond b (Some a) None) l.here) h.pool;
        queue = h.queue;
        moment = h.moment;
        connections = h.connections;
        bytes_in = h.bytes_in;
        bytes_out = h.bytes_out;
        count_interval = h.count_interval;
        counted_at = h.counted_at;
        is_stopped = h.is_stopped;
        events = h.events;
        last_taken = h.last_taken;
      }

  pub placed_sound : (goes_on : S → Type 0) (count since : S → ℕ) (ct : ClientTable (ClientState S)) → IsSound goes_on count since core
      → option_map (λ e. e.value) (slice_get (entries_of core.clients) i) ≡ Some v → entries_of ct ≡ table.changed_at i change (entries_of core.clients)
      → admitted_by ct ≡ admitted_by core.clients → most_of ct ≡ most_of core.clients → IsSound goes_on count since (record core { clients = ct; held = None })
  placed_sound goes_on count since ct h value is admitted most = record {
    sessions = subst (AllByRecursion (GoesOn goes_on count since (core.events + 1) core.moment.0)) (sym is)
        (all_changed (GoesOn goes_on count since (core.events + 1) core.moment.0) change (entries_of core.clients) i h.sessions
        (λ e at goes.
        let value_is : e.value ≡ v = ap (λ o. unwrap_or o v) (sym (ap (λ o. option_map (λ e. e.value) o) at) ∙ value) in
        record {
          session = subst (λ (v : ClientState S). goes_on v.session) value_is goes.session;
          few = subst (λ (v : ClientState S). count v.session ≤ core.events + 1) value_is goes.few;
          past = subst (λ (v : ClientState S). since v.session ≤ core.moment.0) value_is goes.past;
        }));
    most = subst (λ k. k ≤ 4096) (sym most) h.most;
    admitted = subst (λ k. k ≤ core.events) (sym admitted) h.admitted;
    connections = h.connections;
    timers = h.timers;
    no_counts = h.no_counts;
    late = h.late;
  }

  -- what two changes one behind the other come to
  pub changes_are : (named ct : ClientTable (ClientState S)) (w : ClientState S) → entries_of ct ≡ table.changed_at i (table.with_value w) (entries_of named)
      → entries_of named ≡ table.key_changed m (table.with_name name) (entries_of core.clients) → table.place_of m (entries_of core.clients) ≡ Some i
      → w ≡ placed_value a core.moment v → entries_of ct ≡ table.changed_at i change (entries_of core.clients)
  changes_are named ct w last first place is =
      let key : Entry (ClientState S) → Entry (ClientState S) = table.with_key (table.with_name name) in
      last ∙ ap (λ w. table.changed_at i (table.with_value w) (entries_of named)) is
      ∙ ap (table.changed_at i (table.with_value (placed_value a core.moment v))) (first ∙ ap (λ o. table.changed_where o key (entries_of core.clients)) place)
      ∙ twice (table.with_value (placed_value a core.moment v)) key i (entries_of core.clients)

  -- the value that was there before
  pub value_was : (named : ClientTable (ClientState S)) → entries_of named ≡ table.key_changed m (table.with_name name) (entries_of core.clients)
      → table.place_of m (entries_of core.clients) ≡ Some i → option_map (λ e. e.value) (slice_get (entries_of named) i) ≡ Some v
      → option_map (λ e. e.value) (slice_get (entries_of core.clients) i) ≡ Some v
  value_was named first place value =
      let key : Entry (ClientState S) → Entry (ClientState S) = table.with_key (table.with_name name) in
      sym (seen_at key (λ e. e.value) (λ e. refl) i (entries_of core.clients))
      ∙ ap (λ es. option_map (λ (e : Entry (ClientState S)). e.value) (slice_get es i)) (sym (first ∙ ap (λ o. table.changed_where o key (entries_of core.clients)) place))
      ∙ value

-- a place stays one where a client got a name
pub within_still : {V : Type 0} (es named : List (Entry V)) (m i : ℕ) (name : List ℕ) → named ≡ table.key_changed m (table.with_name name) es
    → table.place_of m es ≡ Some i → i < length es → i < length named
within_still es named m i name first place within =
    let key : Entry _ → Entry _ = table.with_key (table.with_name name) in
    subst (λ k. i < k) (sym (ap length (first ∙ ap (λ o. table.changed_where o key es) place) ∙ as_long key i es)) within

-- a core of which every session goes on is one of which all but one do
pub sound_but : {S : Type 0} (goes_on : S → Type 0) (count since : S → ℕ) (n : ℕ) (core : ServerCore S) → IsSound goes_on count since core → IsSoundBut goes_on count since n core
sound_but goes_on count since n core h = record {
  sessions = λ i e at apart. all_at (GoesOn goes_on count since (core.events + 1) core.moment.0) (entries_of core.clients) i e h.sessions at;
  most = h.most;
  admitted = h.admitted;
  connections = h.connections;
  timers = h.timers;
  no_counts = h.no_counts;
  late = h.late;
}
