-- What a call of a client's session leaves.
use Rattle.std.proofs.Common.{◌≡◌, ℕ, zero, suc, ◌+◌, cond, List, [], ◌∷◌, ◌++◌, ◌≤◌, drop, map, slice_get, option_map, Option, None, Some, refl, sym, ap, subst, ◌∙◌, arith}
use Rattle.std.specs.Prelude.{unwrap_or}
use Rattle.std.specs.List.{AllByRecursion}
use Rattle.std.proofs.lemmas.List.{append_assoc, map-append}
use Rattle.vpn_base.specs.declared.address.Addr.{Addr}
use Rattle.vpn_base.specs.declared.names.Role.{Role}
use Rattle.vpn_links.specs.Actions.{Action, Contents, Datagram, Wire, EngineOpen, EnginePut, EngineWrite, EngineClose, Device, Configure, Ask, Say, Report, Stop}
use Rattle.control_link.specs.Calls.{datagrams_to}
use Rattle.client_table.specs.declared.table.ClientTable.{ClientTable}
use Rattle.client_table.specs.Changes as table
use Rattle.client_table.specs.Tables.{entries_of}
use Rattle.peer_table.specs.Outboxes.{actions_of}
use Rattle.peer_table.specs.Peer.{Closes, Doing, Opens, Outcome, Peer, Puts, Writes}
use Rattle.server_table.specs.Courses.{Course, Staged, acted, opened_by, staged_to, with_client}
use Rattle.server_table.specs.Lookups.{client_here, if_here}
use Rattle.server_table.specs.Table.{Client, Table}
use Rattle.server_state.specs.declared.client.ClientState.{ClientState}
use Rattle.server_state.specs.declared.state.ServerCore.{ServerCore}
use Rattle.server_state.specs.Calls.{HasCalled, opens_in}
use Rattle.server_state.specs.Core.{AreInTurn, CoreStands, CourseStands, FileStands, IsOfClient, StateStands, established_at}
use Rattle.server_state.proofs.Changed.{entry_changed, there_at}
use Rattle.server_state.proofs.Standing.{Located}

-- ---- connections

opens_same : (role : Role) (doings : List Doing) → opens_in (actions_of role doings) ≡ opened_by doings
opens_same role [] = refl
opens_same role (Opens conn ∷ doings) = ap suc (opens_same role doings)
opens_same role (Puts conn bytes ∷ doings) = opens_same role doings
opens_same role (Writes conn bytes ∷ doings) = opens_same role doings
opens_same role (Closes conn ∷ doings) = opens_same role doings

pub with_connections : {S : Type 0} (means : S → Peer → Type 0) (core : ServerCore S) (t : Table) (a b : ℕ) → CoreStands means core t → a ≡ b
    → CoreStands means (record core { connections = a }) (record t { connections = b })
with_connections means core t a b h is = record {
  settings = h.settings;
  key = h.key;
  clients = h.clients;
  admitted = h.admitted;
  most = h.most;
  routes = h.routes;
  pool = h.pool;
  queue = h.queue;
  moment = h.moment;
  connections = is;
  bytes_in = h.bytes_in;
  bytes_out = h.bytes_out;
  count_interval = h.count_interval;
  counted_at = h.counted_at;
  is_stopped = h.is_stopped;
  events = h.events;
  last_taken = h.last_taken;
}

-- ---- what is staged

all_append : {X : Type 0} (P : X → Type 0) (xs ys : List X) → AllByRecursion P xs → AllByRecursion P ys → AllByRecursion P (xs ++ ys)
all_append P [] ys all more = more
all_append P (x ∷ xs) ys all more = (all.0, all_append P xs ys all.1 more)

all_own : (n : ℕ) (to : Addr) (datagrams : List (List ℕ)) → AllByRecursion (λ (s : Staged). s.number ≡ n) (staged_to n to datagrams)
all_own n to [] = tt
all_own n to (d ∷ datagrams) = (refl, all_own n to datagrams)

datagrams_same : (n : ℕ) (to : Addr) (datagrams : List (List ℕ)) → map (λ (s : Staged). s.datagram) (staged_to n to datagrams) ≡ datagrams_to to datagrams
datagrams_same n to [] = refl
datagrams_same n to (d ∷ datagrams) = ap (λ (l : List Datagram). record { to = to; bytes = d } ∷ l) (datagrams_same n to datagrams)

pub more_in_turn : (turn mark : ℕ) (staged : List Staged) (to : Addr) (datagrams : List (List ℕ)) → AreInTurn turn mark staged
    → AreInTurn turn mark (staged ++ staged_to turn to datagrams)
more_in_turn turn mark staged to datagrams h = record {
  earlier = h.earlier;
  own = h.own ++ staged_to turn to datagrams;
  all = ap (λ (l : List Staged). l ++ staged_to turn to datagrams) h.all ∙ append_assoc h.earlier h.own (staged_to turn to datagrams);
  marked = h.marked;
  before = h.before;
  behind = all_append (λ (s : Staged). s.number ≡ turn) h.own (staged_to turn to datagrams) h.behind (all_own turn to datagrams);
}

-- ---- the core

module _ {S A : Type 0} (means : S → Peer → Type 0) (before : List Action) (core : ServerCore S) (c : Course) (old new : Contents) (o : Outcome A) (i : ℕ)
    (v w : ClientState S) (ct : ClientTable (ClientState S)) where
  with_session : (x : Client) → StateStands means v x → w ≡ record v { session = w.session } → means w.session o.peer
      → StateStands means w (record x { session = o.peer })
  with_session x h others session = record {
    session = session;
    established = ap (λ (v : ClientState S). option_map established_at v.established) others ∙ h.established;
    heard = ap (λ (v : ClientState S). v.heard.0) others ∙ h.heard;
    sealed_at = ap (λ (v : ClientState S). v.sealed_at.0) others ∙ h.sealed_at;
    bytes_in = ap (λ (v : ClientState S). v.bytes_in) others ∙ h.bytes_in;
    bytes_out = ap (λ (v : ClientState S). v.bytes_out) others ∙ h.bytes_out;
  }

  acted_at : (h : CourseStands means before core old c)
      (l : Located (IsOfClient means) (λ e. e.key.number.0) (λ e n x is. is.number) core.turn.0 (entries_of core.clients) 0 core.turn.0 c.table.clients i)
      → HasCalled means core i old new o v w ct l.client
      → CourseStands means before (record core { clients = ct; connections = core.connections + opens_in (actions_of o.peer.role o.doings) }) new
      (acted core.turn.0 l.client.address o c)
  acted_at h l called =
      let n = core.turn.0 in
      let value_is : l.entry.value ≡ v = ap (λ e. unwrap_or e v) (sym (ap (λ e. option_map (λ e. e.value) e) l.entry_there) ∙ called.value) in
      let state : StateStands means v l.client = subst (λ v. StateStands means v l.client) value_is l.stands.state in
      let file_kept : w.file ≡ v.file = ap (λ (v : ClientState S). v.file) called.others in
      record {
        table = with_connections means (record core { clients = ct }) (with_client n (λ x. record x { session = o.peer }) c.table)
            (core.connections + opens_in (actions_of o.peer.role o.doings)) (c.table.connections + opened_by o.doings)
            (entry_changed means core c.table n i ct (table.with_value w) (λ x. record x { session = o.peer }) h.table l called.changed.entries_are called.changed.admitted_is
            called.changed.most_is l.here
            (record {
              number = l.stands.number;
              peer_id = l.stands.peer_id;
              address = l.stands.address;
              remote = called.remote ∙ l.stands.remote;
              name = l.stands.name ∙ sym called.name;
              file = subst (λ of. FileStands o.peer.name of l.client.file) (sym file_kept) called.file;
              state = with_session l.client state called.others called.leaves.peer;
            })
            (λ y. refl))
            (ap (λ k. core.connections + k) (opens_same o.peer.role o.doings) ∙ ap (λ k. k + opened_by o.doings) h.table.connections);
        outbox = (
          called.leaves.outbox.0 ∙ ap (λ (l : List Action). l ++ actions_of o.peer.role o.doings) h.outbox.0
              ∙ append_assoc before c.effects (actions_of o.peer.role o.doings),
          called.leaves.outbox.1 ∙ ap (λ (ds : List Datagram). ds ++ datagrams_to l.client.address o.datagrams) h.outbox.1
              ∙ ap (λ (l : List Datagram). map (λ (s : Staged). s.datagram) c.staged ++ l) (sym (datagrams_same n l.client.address o.datagrams))
              ∙ sym (map-append (λ (s : Staged). s.datagram) c.staged (staged_to n l.client.address o.datagrams)),
        );
        in_turn = more_in_turn n core.mark c.staged l.client.address o.datagrams h.in_turn;
      }

  -- a call of the session of the client whose turn it is, at its place
  pub call_stands : (h : CourseStands means before core old c) → ((x : Client) → client_here c.table core.turn.0 ≡ Some x → HasCalled means core i old new o v w ct x)
      → (place : table.place_of core.turn.0 (entries_of core.clients) ≡ Some i) → (x : Client) → client_here c.table core.turn.0 ≡ Some x
      → CourseStands means before (record core { clients = ct; connections = core.connections + opens_in (actions_of o.peer.role o.doings) }) new
      (acted core.turn.0 x.address o c)
  unfolding client_here
  call_stands h called place x there =
      let l = there_at means core c.table core.turn.0 i h.table place in
      let same : Some x ≡ Some l.client = sym there ∙ ap if_here l.client_there ∙ ap (λ b. cond b (Some l.client) None) l.here in
      let is : x ≡ l.client = ap (λ (e : Option Client). unwrap_or e x) same in
      subst (λ (address : Addr). CourseStands means before (record core { clients = ct; connections = core.connections + opens_in (actions_of o.peer.role o.doings) }) new
      (acted core.turn.0 address o c)) (sym (ap (λ (x : Client). x.address) is))
      (acted_at h l (subst (HasCalled means core i old new o v w ct) is (called x there)))

-- ---- how many connections are opened

opens_first : (a : Action) (actions : List Action) → opens_in (a ∷ actions) ≡ opens_in (a ∷ []) + opens_in actions
opens_first (EngineOpen conn role) actions = omega arith
opens_first (Wire to bytes) actions = omega arith
opens_first (EnginePut conn bytes) actions = omega arith
opens_first (EngineWrite conn bytes) actions = omega arith
opens_first (EngineClose conn) actions = omega arith
opens_first (Device bytes) actions = omega arith
opens_first (Configure address len gateway routes rest) actions = omega arith
opens_first (Ask id name) actions = omega arith
opens_first (Say bytes) actions = omega arith
opens_first (Report note) actions = omega arith
opens_first Stop actions = omega arith

pub opens_one : (a : Action) → opens_in (a ∷ []) ≤ 1
opens_one (EngineOpen conn role) = omega arith
opens_one (Wire to bytes) = omega arith
opens_one (EnginePut conn bytes) = omega arith
opens_one (EngineWrite conn bytes) = omega arith
opens_one (EngineClose conn) = omega arith
opens_one (Device bytes) = omega arith
opens_one (Configure address len gateway routes rest) = omega arith
opens_one (Ask id name) = omega arith
opens_one (Say bytes) = omega arith
opens_one (Report note) = omega arith
opens_one Stop = omega arith

-- one effect, and those behind it
pub opens_step : (actions : List Action) (i : ℕ) (a : Action) → slice_get actions i ≡ Some a → opens_in (drop i actions) ≡ opens_in (a ∷ []) + opens_in (drop (i + 1) actions)
opens_step [] i a there = cc
opens_step (x ∷ actions) zero a there =
    let is : x ≡ a = ap (λ o. unwrap_or o x) there in
    opens_first x actions ∙ ap (λ (x : Action). opens_in (x ∷ []) + opens_in actions) is
opens_step (x ∷ actions) (suc i) a there =
    let more : suc i + 1 ≡ suc (i + 1) = omega arith in
    opens_step actions i a there ∙ sym (ap (λ n. opens_in (a ∷ []) + opens_in (drop n (x ∷ actions))) more)
