-- A client's session has taken a control packet.
use Rattle.std.proofs.Common.{◌≡◌, ℕ, zero, suc, ◌+◌, ◌≤◌, ◌%◌, Bool, List, [], ◌∷◌, ◌++◌, drop, length, min, slice_get, option_map, Option, Some, None, Result, Ok, Err, refl, sym, ap, subst, ◌∙◌, arith}
use Rattle.std.specs.Prelude.{is_some, unwrap_or}
use Rattle.vpn_base.specs.declared.address.Addr.{Addr}
use Rattle.vpn_base.specs.declared.names.Moment.{Moment}
use Rattle.vpn_base.specs.declared.names.Place.{Place}
use Rattle.vpn_base.specs.declared.names.Role.{Role}
use Rattle.vpn_links.specs.Actions.{Action, Contents, Holds}
use Rattle.client_table.specs.declared.table.ClientTable.{ClientTable}
use Rattle.client_table.specs.Changes as table
use Rattle.client_table.specs.Tables.{entries_of}
use Rattle.peer_table.specs.declared.outcomes.Refused.{Refused}
use Rattle.peer_table.specs.declared.outcomes.Refused.TheVariants.{Replayed, BadKey}
use Rattle.peer_table.specs.declared.outcomes.Turn.{Turn}
use Rattle.peer_table.specs.ControlPackets.{Incoming, control_came}
use Rattle.peer_table.specs.KeySessions.{live_with}
use Rattle.peer_table.specs.Naming as naming
use Rattle.peer_table.specs.Outboxes.{Leaves, actions_of}
use Rattle.peer_table.specs.Outboxes as boxes
use Rattle.peer_table.specs.Peer.{Closes, Doing, Opens, Outcome, Peer, Puts, Writes}
use Rattle.peer_table.specs.Places.{changed_at}
use Rattle.opcode_codec.specs.declared.control.ControlView.{ControlView}
use Rattle.tls_crypt.specs.declared.wrapping.Opened.{Opened}
use Rattle.server_table.specs.ControlDatagrams as server
use Rattle.server_table.specs.Courses.{Course, acted, opened_by, with_client}
use Rattle.server_table.specs.Lookups.{client_here}
use Rattle.server_table.specs.Table.{Client, Established, Table}
use Rattle.server_state.specs.declared.client.ClientState.{ClientState}
use Rattle.server_state.specs.declared.state.ServerCore.{ServerCore}
use Rattle.server_state.specs.Calls.{HasCalled, opens_in}
use Rattle.server_state.specs.Core.{CoreStands, CourseStands, FileStands, StateStands, established_at, name_once}
use Rattle.server_state.specs.Places.{IsChangedAt, IsThere}
use Rattle.server_control.specs.Packets.{packet_of}
use Rattle.server_control.specs.internal.Taking.{HasTaken, heard_after, last_after, told, went}
use Rattle.server_control.proofs.Came.{keeps}
use Rattle.server_control.proofs.Sound.{value_of}

-- ---- lists

pub changed_twice : {X : Type 0} (f g : X → X) (n : ℕ) (xs : List X) → changed_at n g (changed_at n f xs) ≡ changed_at n (λ x. g (f x)) xs
changed_twice f g n [] = refl
changed_twice f g zero (x ∷ xs) = refl
changed_twice f g (suc n) (x ∷ xs) = ap (λ ys. x ∷ ys) (changed_twice f g n xs)

changed_id : {X : Type 0} (n : ℕ) (xs : List X) → changed_at n (λ (x : X). x) xs ≡ xs
changed_id n [] = refl
changed_id zero (x ∷ xs) = refl
changed_id (suc n) (x ∷ xs) = ap (λ ys. x ∷ ys) (changed_id n xs)

pub drop_front : {X : Type 0} (xs ys : List X) → drop (length xs) (xs ++ ys) ≡ ys
drop_front [] ys = refl
drop_front (x ∷ xs) ys = drop_front xs ys

-- ---- connections

pub opens_same : (role : Role) (doings : List Doing) → opens_in (actions_of role doings) ≡ opened_by doings
opens_same role [] = refl
opens_same role (Opens conn ∷ doings) = ap suc (opens_same role doings)
opens_same role (Puts conn bytes ∷ doings) = opens_same role doings
opens_same role (Writes conn bytes ∷ doings) = opens_same role doings
opens_same role (Closes conn ∷ doings) = opens_same role doings

min_one : (n k : ℕ) → n ≡ k → k ≤ 1 → min n 1 ≡ k
min_one n zero is few = ap (λ n. min n 1) is
min_one n (suc zero) is few = ap (λ n. min n 1) is
min_one n (suc (suc k)) is few = absurd (omega (arith, few))

length_more : (old more : List Action) → length old ≤ length (old ++ more)
length_more [] more = omega arith
length_more (a ∷ old) more = omega (arith, length_more old more)

-- what was counted is what the session opened
pub counted_is : (old : List Action) (new : List Action) (role : Role) (doings : List Doing) (k : ℕ) → new ≡ old ++ actions_of role doings
    → (length old ≤ length new → k ≡ min (opens_in (drop (length old) new)) 1) → opened_by doings ≤ 1 → k ≡ opened_by doings
counted_is old new role doings k is counted few =
    counted (subst (λ (l : List Action). length old ≤ length l) (sym is) (length_more old (actions_of role doings)))
    ∙ min_one (opens_in (drop (length old) new)) (opened_by doings)
    (ap (λ (l : List Action). opens_in (drop (length old) l)) is ∙ ap opens_in (drop_front old (actions_of role doings)) ∙ opens_same role doings) few

-- ---- the core

pub finished : {S : Type 0} (means : S → Peer → Type 0) (core : ServerCore S) (t : Table) (a b : ℕ) (l k : Option Place) → a ≡ b → l ≡ k → CoreStands means core t
    → CoreStands means (record core { connections = a; last_taken = l }) (record t { connections = b; last_taken = k })
finished means core t a b l k is went h = record {
  settings = h.settings;
  key = h.key;
  clients = h.clients;
  admitted = h.admitted;
  most = h.most;
  routes = h.routes;
  pool = h.pool;
  queue = h.queue;
  moment = h.moment;
  connections = is;
  bytes_in = h.bytes_in;
  bytes_out = h.bytes_out;
  count_interval = h.count_interval;
  counted_at = h.counted_at;
  is_stopped = h.is_stopped;
  events = h.events;
  last_taken = went;
}

-- whether a client is established, as the core has it
pub established_is : {A : Type 0} (o : Option A) (f : A → Established) (e : Option Established) → option_map f o ≡ e → is_some o ≡ is_some e
established_is None f e is = ap is_some is
established_is (Some p) f e is = ap is_some is

module _ {S : Type 0} (means : S → Peer → Type 0) (before : List Action) (core : ServerCore S) (old new : Contents) (c : Course) (h : CourseStands means before core old c)
    (i : ℕ) (there : IsThere means core c.table core.turn.0 i) (v w : ClientState S)
    (value : option_map (λ e. e.value) (slice_get (entries_of core.clients) i) ≡ Some v) (ct : ClientTable (ClientState S)) (is : IsChangedAt core i (table.with_value w) ct) where
  abbrev pub x : Client
  x = there.client

  abbrev pub n : ℕ
  n = core.turn.0

  state_was : StateStands means v x
  state_was = subst (λ v. StateStands means v x) (value_of (slice_get (entries_of core.clients) i) there.entry v there.entry_there value) there.stands.state

  file_was : FileStands x.session.name v.file x.file
  file_was = subst (λ (v : ClientState S). FileStands x.session.name v.file x.file) (value_of (slice_get (entries_of core.clients) i) there.entry v there.entry_there value) there.stands.file

  -- the client has another session, and was heard then
  core_changed : (peer : Peer) (k : Client → ℕ) → peer.remote ≡ Some there.entry.key.sid → peer.name ≡ x.session.name → means w.session peer → w.heard.0 ≡ k x
      → w ≡ record v { session = w.session; heard = w.heard }
      → CoreStands means (record core { clients = ct }) (with_client n (λ x. record x { session = peer; heard = k x }) c.table)
  core_changed peer k remote name session heard others =
      there.changed ct (table.with_value w) (λ x. record x { session = peer; heard = k x }) is there.here
      (record {
        number = there.stands.number;
        peer_id = there.stands.peer_id;
        address = there.stands.address;
        remote = remote;
        name = there.stands.name ∙ ap (λ name. name_once name x.established) (sym name);
        file = subst (λ name. FileStands name w.file x.file) (sym name)
            (subst (λ (w : ClientState S). FileStands x.session.name w.file x.file) (sym others) file_was);
        state = record {
          session = session;
          established = ap (λ (v : ClientState S). option_map established_at v.established) others ∙ state_was.established;
          heard = heard;
          sealed_at = ap (λ (v : ClientState S). v.sealed_at.0) others ∙ state_was.sealed_at;
          bytes_in = ap (λ (v : ClientState S). v.bytes_in) others ∙ state_was.bytes_in;
          bytes_out = ap (λ (v : ClientState S). v.bytes_out) others ∙ state_was.bytes_out;
        };
      })
      (λ y. refl)

  -- nothing was done but that the session has made ready
  pub core_kept : ((p : Peer) → means v.session p → means w.session p × Holds new old.effects old.staged) → w ≡ record v { session = w.session }
      → CourseStands means before (record core { clients = ct }) new c
  core_kept left others = record {
    table = subst (λ clients. CoreStands means (record core { clients = ct }) (record c.table { clients = clients })) (changed_id n c.table.clients)
        (there.changed ct (table.with_value w) (λ x. x) is there.here
        (record {
          number = there.stands.number;
          peer_id = there.stands.peer_id;
          address = there.stands.address;
          remote = there.stands.remote;
          name = there.stands.name;
          file = subst (λ (w : ClientState S). FileStands x.session.name w.file x.file) (sym others) file_was;
          state = record {
            session = (left x.session state_was.session).0;
            established = ap (λ (v : ClientState S). option_map established_at v.established) others ∙ state_was.established;
            heard = ap (λ (v : ClientState S). v.heard.0) others ∙ state_was.heard;
            sealed_at = ap (λ (v : ClientState S). v.sealed_at.0) others ∙ state_was.sealed_at;
            bytes_in = ap (λ (v : ClientState S). v.bytes_in) others ∙ state_was.bytes_in;
            bytes_out = ap (λ (v : ClientState S). v.bytes_out) others ∙ state_was.bytes_out;
          };
        })
        (λ y. refl));
    outbox = ((left x.session state_was.session).1.0 ∙ h.outbox.0, (left x.session state_was.session).1.1 ∙ h.outbox.1);
    in_turn = h.in_turn;
  }

  with_heard : (heard : Moment) → w ≡ record v { session = w.session; heard = heard } → w ≡ record v { session = w.session; heard = w.heard }
  with_heard heard is = is ∙ ap (λ (at : Moment). record v { session = w.session; heard = at }) (sym (ap (λ (v : ClientState S). v.heard) is))

  module _ (o : Outcome (Result Turn Refused)) (remote : o.peer.remote ≡ Some there.entry.key.sid) (name : o.peer.name ≡ x.session.name) (session : means w.session o.peer)
      (a : ℕ) (connections : a ≡ c.table.connections + opened_by o.doings) (reached : Option Place) where
    core_went : (answer : Result Turn Refused) → w ≡ heard_after (Ok answer) core.moment v w.session
        → CoreStands means (record core { clients = ct; connections = a; last_taken = last_after answer reached core.last_taken })
        (went n reached (acted n x.address o c) answer).table
    core_went (Ok turn) w_is =
        subst (λ (clients : List Client). CoreStands means (record core { clients = ct; connections = a; last_taken = reached })
        (record c.table { clients = clients; connections = c.table.connections + opened_by o.doings; last_taken = reached }))
        (sym (changed_twice (λ (y : Client). record y { session = o.peer }) (λ y. record y { heard = c.table.moment }) n c.table.clients))
        (finished means (record core { clients = ct }) (with_client n (λ y. record y { session = o.peer; heard = c.table.moment }) c.table) a
        (c.table.connections + opened_by o.doings) reached reached connections refl
        (core_changed o.peer (λ y. c.table.moment) remote name session (ap (λ (v : ClientState S). v.heard.0) w_is ∙ h.table.moment) (with_heard core.moment w_is)))
    core_went (Err (BadKey kid)) w_is =
        subst (λ (clients : List Client). CoreStands means (record core { clients = ct; connections = a })
        (record c.table { clients = clients; connections = c.table.connections + opened_by o.doings }))
        (sym (changed_twice (λ (y : Client). record y { session = o.peer }) (λ y. record y { heard = c.table.moment }) n c.table.clients))
        (finished means (record core { clients = ct }) (with_client n (λ y. record y { session = o.peer; heard = c.table.moment }) c.table) a
        (c.table.connections + opened_by o.doings) core.last_taken c.table.last_taken connections h.table.last_taken
        (core_changed o.peer (λ y. c.table.moment) remote name session (ap (λ (v : ClientState S). v.heard.0) w_is ∙ h.table.moment) (with_heard core.moment w_is)))
    core_went (Err (Replayed time id)) w_is =
        finished means (record core { clients = ct }) (with_client n (λ y. record y { session = o.peer }) c.table) a
        (c.table.connections + opened_by o.doings) core.last_taken c.table.last_taken connections h.table.last_taken
        (core_changed o.peer (λ y. y.heard) remote name session (ap (λ (v : ClientState S). v.heard.0) w_is ∙ state_was.heard) (with_heard v.heard w_is))

  module _ (ct1 : ClientTable (ClientState S)) (is1 : IsChangedAt core i (table.with_value (record v { session = w.session })) ct1)
      (place : table.place_of n (entries_of core.clients) ≡ Some i)
      (acts : (o : Outcome (Result Turn Refused)) → ((x : Client) → client_here c.table core.turn.0 ≡ Some x → HasCalled means core i old new o v (record v { session = w.session }) ct1 x)
      → (x : Client) → client_here c.table core.turn.0 ≡ Some x
      → CourseStands means before (record core { clients = ct1; connections = core.connections + opens_in (actions_of o.peer.role o.doings) }) new (acted core.turn.0 x.address o c))
      (opened : Opened) (view : ControlView) (to : Addr) (address : option_map (λ e. e.key.address) (slice_get (entries_of core.clients) i) ≡ Some to)
      (reached : Option Place) (number : ℕ) (reached_is : (q : Peer) → means w.session q → reached ≡ naming.place_numbered number q)
      (number_is : (p : Peer) → means v.session p → number ≡ naming.number_of p (live_with p.timers core.moment.0 p.sessions (opened.first % 8)))
      (answer : Result Turn Refused) (w_is : w ≡ heard_after (Ok answer) core.moment v w.session) where
    abbrev pub given : Incoming
    given = boxes.incoming opened view (record { 0 = core.connections }) (is_some v.established) core.moment

    abbrev pub wanted : Incoming
    wanted = server.incoming (packet_of opened view) c x

    same : given ≡ wanted
    same =
        ap (λ (k : ℕ). boxes.incoming opened view (record { 0 = k }) (is_some v.established) core.moment) h.table.connections
        ∙ ap (λ (b : Bool). boxes.incoming opened view (record { 0 = c.table.connections }) b core.moment)
        (established_is v.established established_at x.established state_was.established)
        ∙ ap (λ (k : ℕ). boxes.incoming opened view (record { 0 = c.table.connections }) (is_some x.established) (record { 0 = k })) h.table.moment

    address_is : to ≡ x.address
    address_is =
        sym (ap (λ o. unwrap_or o to) (sym (ap (λ o. option_map (λ e. e.key.address) o) there.entry_there) ∙ address)) ∙ there.stands.address

    abbrev pub o : Outcome (Result Turn Refused)
    o = control_came x.session wanted

    named : o.peer.name ≡ x.session.name
    named = (keeps x.session wanted).name

    fixed : o.peer.remote ≡ Some there.entry.key.sid
    fixed = (keeps x.session wanted).remote there.entry.key.sid there.stands.remote

    number_same : number ≡ naming.number_of x.session (live_with x.session.timers c.table.moment x.session.sessions (opened.first % 8))
    number_same =
        number_is x.session state_was.session
        ∙ ap (λ (k : ℕ). naming.number_of x.session (live_with x.session.timers k x.session.sessions (opened.first % 8))) h.table.moment

    put_in : (b : ℕ) → b ≡ opened_by o.doings → Leaves means w.session old new to o
        → (acted_so : CourseStands means before (record core { clients = ct1; connections = core.connections + opens_in (actions_of o.peer.role o.doings) }) new (acted n x.address o c))
        → (a : Result Turn Refused) → w ≡ heard_after (Ok a) core.moment v w.session
        → CourseStands means before (record core { clients = ct; connections = core.connections + b; last_taken = last_after a reached core.last_taken }) new
        (went n reached (acted n x.address o c) a)
    put_in b b_is leaves so (Ok turn) is_w = record {
      table = core_went o fixed named leaves.peer (core.connections + b)
          (ap (λ k. core.connections + k) b_is ∙ ap (λ k. k + opened_by o.doings) h.table.connections) reached (Ok turn) is_w;
      outbox = so.outbox;
      in_turn = so.in_turn;
    }
    put_in b b_is leaves so (Err (BadKey kid)) is_w = record {
      table = core_went o fixed named leaves.peer (core.connections + b)
          (ap (λ k. core.connections + k) b_is ∙ ap (λ k. k + opened_by o.doings) h.table.connections) reached (Err (BadKey kid)) is_w;
      outbox = so.outbox;
      in_turn = so.in_turn;
    }
    put_in b b_is leaves so (Err (Replayed time id)) is_w = record {
      table = core_went o fixed named leaves.peer (core.connections + b)
          (ap (λ k. core.connections + k) b_is ∙ ap (λ k. k + opened_by o.doings) h.table.connections) reached (Err (Replayed time id)) is_w;
      outbox = so.outbox;
      in_turn = so.in_turn;
    }

    client_is : (y : Client) → client_here c.table n ≡ Some y → x ≡ y
    client_is y at = ap (λ (o : Option Client). unwrap_or o y) (sym there.client_there ∙ at)

    called : Leaves means w.session old new x.address o → HasCalled means core i old new o v (record v { session = w.session }) ct1 x
    called leaves = record {
      place = place;
      value = value;
      changed = is1;
      others = refl;
      leaves = leaves;
      remote = fixed ∙ sym there.stands.remote;
      name = ap (λ name. name_once name x.established) named;
      file = subst (λ name. FileStands name v.file x.file) (sym named) file_was;
    }

    -- the client has taken it
    pub has_taken : (k : ℕ) (last : Option Place) → last ≡ last_after answer reached core.last_taken → (length old.effects ≤ length new.effects → k ≡ min (opens_in (drop (length old.effects) new.effects)) 1)
        → ((p : Peer) → means v.session p → Leaves means w.session old new to (control_came p given))
        → ((p : Peer) → means v.session p → answer ≡ (control_came p given).answer)
        → (y : Client) → client_here c.table n ≡ Some y
        → HasTaken means before (record core { clients = ct; connections = core.connections + k; last_taken = last }) new n
        (packet_of opened view) c y answer
    has_taken k last last_is counted left told y at =
        let came : Leaves means w.session old new to o = subst (λ (j : Incoming). Leaves means w.session old new to (control_came x.session j)) same (left x.session state_was.session) in
        let here : Leaves means w.session old new x.address o = subst (λ (t : Addr). Leaves means w.session old new t o) address_is came in
        let so = acts o (λ z z_at. subst (HasCalled means core i old new o v (record v { session = w.session }) ct1) (client_is z z_at) (called here)) x there.client_there in
        let k_is = counted_is old.effects new.effects o.peer.role o.doings k here.outbox.0 counted (keeps x.session wanted).opens in
        subst (λ (last : Option Place). HasTaken means before (record core { clients = ct; connections = core.connections + k; last_taken = last }) new n
        (packet_of opened view) c y answer) (sym last_is)
        (subst (λ (y : Client). HasTaken means before (record core { clients = ct; connections = core.connections + k; last_taken = last_after answer reached core.last_taken }) new n
        (packet_of opened view) c y answer) (client_is y at)
        (record {
          answered = told x.session state_was.session ∙ ap (λ (j : Incoming). (control_came x.session j).answer) same;
          course = subst (λ (reached1 : Option Place). CourseStands means before
              (record core { clients = ct; connections = core.connections + k; last_taken = last_after answer reached core.last_taken }) new
              (went n reached1 (acted n x.address o c) answer)) (reached_is o.peer came.peer ∙ ap (λ k. naming.place_numbered k o.peer) number_same) (put_in k k_is came so answer w_is);
        }))

-- the two steps are one
pub told_went : (n : ℕ) (reached : Option Place) (c : Course) (answer : Result Turn Refused)
    → told n (went n reached c answer) answer ≡ server.control_answered n reached c answer
told_went n reached c (Ok turn) = refl
told_went n reached c (Err (BadKey kid)) = refl
told_went n reached c (Err (Replayed time id)) = refl

pub taken_in_all : {S : Type 0} (means : S → Peer → Type 0) (before : List Action) (core : ServerCore S) (out : Contents) (n : ℕ) (r : server.ControlPacket) (c : Course)
    (x : Client) (answer : Result Turn Refused) → client_here c.table n ≡ Some x → answer ≡ (control_came x.session (server.incoming r c x)).answer
    → CourseStands means before core out
    (told n (went n (server.control_place (server.incoming r c x) x.session (control_came x.session (server.incoming r c x)).peer)
    (acted n x.address (control_came x.session (server.incoming r c x)) c) answer) answer)
    → CourseStands means before core out (server.to_client r n c)
unfolding server.to_client
taken_in_all means before core out n r c x answer at told_is h =
    let o = control_came x.session (server.incoming r c x) in
    let reached = server.control_place (server.incoming r c x) x.session o.peer in
    subst (λ y. CourseStands means before core out (server.control_for r n c y)) (sym at)
    (subst (λ (a : Result Turn Refused). CourseStands means before core out (server.control_answered n reached (acted n x.address o c) a)) told_is
    (subst (CourseStands means before core out) (told_went n reached (acted n x.address o c) answer) h))

pub nobody_takes : {S : Type 0} (means : S → Peer → Type 0) (before : List Action) (core : ServerCore S) (out : Contents) (n : ℕ) (r : server.ControlPacket) (c : Course)
    → client_here c.table n ≡ None → CourseStands means before core out c → CourseStands means before core out (server.to_client r n c)
unfolding server.to_client
nobody_takes means before core out n r c none h = subst (λ y. CourseStands means before core out (server.control_for r n c y)) (sym none) h

pub told_in_all : {S : Type 0} (means : S → Peer → Type 0) (before : List Action) (mid core : ServerCore S) (between out : Contents) (n m : ℕ) (r : server.ControlPacket) (c : Course)
    (x : Client) (answer : Result Turn Refused) → client_here c.table n ≡ Some x → HasTaken means before mid between n r c x answer → m ≡ n
    → ((before : List Action) (c : Course) → CourseStands means before mid between c → CourseStands means before core out (told m c answer))
    → CourseStands means before core out (server.to_client r n c)
told_in_all means before mid core between out n m r c x answer at took is tells =
    let o = control_came x.session (server.incoming r c x) in
    let c1 : Course = went n (server.control_place (server.incoming r c x) x.session o.peer) (acted n x.address o c) answer in
    taken_in_all means before core out n r c x answer at took.answered
    (subst (λ (m : ℕ). CourseStands means before core out (told m c1 answer)) is (tells before c1 took.course))
