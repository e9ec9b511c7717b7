-- A client is admitted.
use Rattle.std.proofs.Common.{◌≡◌, ℕ, zero, suc, ◌+◌, ◌-◌, ◌*◌, ◌^◌, ◌≤◌, ◌==◌, ◌%◌, true, false, List, [], ◌∷◌, ◌++◌, length, map, slice_get, option_map, Option, Some, Result, Ok, Err, refl, sym, ap, subst, ◌∙◌, arith}
use Rattle.std.specs.List.{AllByRecursion}
use Rattle.std.proofs.lemmas.List.{append_assoc, map-append}
use Rattle.vpn_base.specs.declared.address.Addr.{Addr}
use Rattle.vpn_base.specs.declared.names.Cid.{Cid}
use Rattle.vpn_base.specs.declared.names.Draw.{Draw}
use Rattle.vpn_base.specs.declared.names.Place.{Place}
use Rattle.vpn_base.specs.declared.names.Role.TheVariants.{Server}
use Rattle.vpn_base.specs.declared.names.Sid.{Sid}
use Rattle.vpn_links.specs.Actions.{Action, Contents, Datagram, Holds}
use Rattle.address_pool.specs.Holds as pool
use Rattle.control_link.specs.Calls.{datagrams_to}
use Rattle.client_table.specs.declared.table.ClientTable.{ClientTable}
use Rattle.client_table.specs.Changes as table
use Rattle.client_table.specs.Entries.{Entry, newcomer}
use Rattle.client_table.specs.PeerIds as ids
use Rattle.client_table.specs.Sound.{rise_from}
use Rattle.client_table.specs.Tables.{Has, admitted_by, entries_of, most_of}
use Rattle.opcode_codec.specs.declared.control.ControlView.{ControlView}
use Rattle.tls_crypt.specs.declared.wrapping.Opened.{Opened}
use Rattle.tls_crypt.specs.Wrapped.{half, keys_of, wrapped, written_half}
use Rattle.ovpn_config.specs.declared.settings.Settings.{Settings}
use Rattle.peer_table.specs.declared.outcomes.Refused.{Refused}
use Rattle.peer_table.specs.declared.outcomes.Refused.TheVariants.{Replayed, BadKey}
use Rattle.peer_table.specs.declared.outcomes.Turn.{Turn}
use Rattle.peer_table.specs.declared.outcomes.Turn.TheVariants.{Going, Ignored, Named, Exchange, Over}
use Rattle.peer_table.specs.ControlPackets.{Incoming, control_came}
use Rattle.peer_table.specs.Outboxes.{GoesOnAfter, actions_of}
use Rattle.peer_table.specs.Outboxes as boxes
use Rattle.peer_table.specs.Peer.{Outcome, Peer, began}
use Rattle.peer_table.specs.Places.{changed_at}
use Rattle.server_table.specs.ControlDatagrams as server
use Rattle.server_table.specs.Courses.{Course, Staged, acted, opened_by, staged_to}
use Rattle.server_table.specs.Establishing.{first_address, last_address}
use Rattle.server_table.specs.Lookups.{client_here, free_peer_id, if_here}
use Rattle.server_table.specs.Table.{Client, Table, Unasked}
use Rattle.server_state.specs.declared.client.ClientState.{ClientState}
use Rattle.server_state.specs.declared.state.ServerCore.{ServerCore}
use Rattle.server_state.specs.Core.{AreInTurn, CoreStands, CourseStands, FileStands, GoesOn, IsOfClient, IsSound, IsSoundAhead, established_at, with_held}
use Rattle.server_state.specs.Endings.{IsSoundBut}
use Rattle.server_state.specs.Standing.{StandFrom}
use Rattle.server_control.specs.Packets.{packet_of}
use Rattle.server_control.specs.internal.Admitting.{HasBegun}
use Rattle.server_control.specs.internal.Taking.{HasTaken, IsSoundAfter, last_after, went}
use Rattle.server_control.proofs.First.{began_opens, began_remote, first_quiet}
use Rattle.server_control.proofs.Placed.{all_last, changed_last, last_at, last_place, length_last, map_none, stand_more, taken_last}
use Rattle.server_control.proofs.Sound.{all_at}

-- ---- memory for one client more

pub reserved_stands : {S : Type 0} (means : S → Peer → Type 0) (core : ServerCore S) (ct : ClientTable (ClientState S)) (t : Table)
    → Has ct (entries_of core.clients) (most_of core.clients) (admitted_by core.clients) → CoreStands means core t → CoreStands means (record core { clients = ct }) t
reserved_stands means core ct t same h = record {
  settings = h.settings;
  key = h.key;
  clients = subst (λ es. StandFrom (IsOfClient means) es 0 t.clients) (sym same.entries_are) h.clients;
  admitted = same.admitted_is ∙ h.admitted;
  most = same.most_is ∙ h.most;
  routes = h.routes;
  pool = h.pool;
  queue = h.queue;
  moment = h.moment;
  connections = h.connections;
  bytes_in = h.bytes_in;
  bytes_out = h.bytes_out;
  count_interval = h.count_interval;
  counted_at = h.counted_at;
  is_stopped = h.is_stopped;
  events = h.events;
  last_taken = h.last_taken;
}

pub reserved_sound : {S : Type 0} (goes_on : S → Type 0) (count since : S → ℕ) (core : ServerCore S) (ct : ClientTable (ClientState S))
    → Has ct (entries_of core.clients) (most_of core.clients) (admitted_by core.clients) → IsSoundAhead goes_on count since core → IsSoundAhead goes_on count since (record core { clients = ct })
reserved_sound goes_on count since core ct same h = record {
  sessions = subst (AllByRecursion (GoesOn goes_on count since (core.events - 1 + 1) core.moment.0)) (sym same.entries_are) h.sessions;
  most = subst (λ k. k ≤ 4096) (sym same.most_is) h.most;
  admitted = subst (λ k. k ≤ core.events - 1) (sym same.admitted_is) h.admitted;
  connections = h.connections;
  timers = h.timers;
  no_counts = h.no_counts;
  late = h.late;
}

-- ---- what holds of the core

not_last : {X : Type 0} (xs : List X) (x : X) (j : ℕ) (v : X) → slice_get (xs ++ x ∷ []) j ≡ Some v → (length xs ≡ j → ⊥) → slice_get xs j ≡ Some v
not_last [] x zero v there apart = absurd (apart refl)
not_last [] x (suc j) v there apart = there
not_last (y ∷ xs) x zero v there apart = there
not_last (y ∷ xs) x (suc j) v there apart = not_last xs x j v there (λ e. apart (ap suc e))

module _ {S : Type 0} (goes_on : S → Type 0) (count since : S → ℕ) (core : ServerCore S) (counted : 1 ≤ core.events) (h : IsSoundAhead goes_on count since core)
    (e : Entry (ClientState S)) (few : count e.value.session ≤ 2) (past : since e.value.session ≤ core.moment.0) (ct : ClientTable (ClientState S))
    (has : Has ct (entries_of core.clients ++ e ∷ []) (most_of core.clients) (admitted_by core.clients + 1)) (turn : Cid) (last : Option Place) where
  abbrev after : ServerCore S
  after = record core { clients = ct; connections = core.connections + 1; last_taken = last; turn = turn }

  into : (e : Entry (ClientState S)) → GoesOn goes_on count since (core.events - 1 + 1) core.moment.0 e → GoesOn goes_on count since (core.events + 1) core.moment.0 e
  into e g = record { session = g.session; few = omega (arith, counted, g.few); past = g.past }

  admitted_few : admitted_by ct ≤ core.events
  admitted_few = let is = has.admitted_is in let most = h.admitted in omega (arith, counted, is, most)

  opened_few : core.connections + 1 ≤ 2 ^ 13 * core.events
  opened_few = let most = h.connections in omega (arith, counted, most)

  sound_on : goes_on e.value.session → IsSound goes_on count since after
  sound_on goes = record {
    sessions = subst (AllByRecursion (GoesOn goes_on count since (core.events + 1) core.moment.0)) (sym has.entries_are)
        (all_last (GoesOn goes_on count since (core.events - 1 + 1) core.moment.0) (GoesOn goes_on count since (core.events + 1) core.moment.0) (entries_of core.clients) e into h.sessions
        (record { session = goes; few = omega (arith, counted, few); past = past }));
    most = subst (λ k. k ≤ 4096) (sym has.most_is) h.most;
    admitted = admitted_few;
    connections = opened_few;
    timers = h.timers;
    no_counts = h.no_counts;
    late = h.late;
  }

  sound_but : table.place_of turn.0 (entries_of core.clients ++ e ∷ []) ≡ Some (length (entries_of core.clients)) → IsSoundBut goes_on count since turn.0 after
  sound_but place = record {
    sessions = λ j d there apart.
        into d (all_at (GoesOn goes_on count since (core.events - 1 + 1) core.moment.0) (entries_of core.clients) j d h.sessions
        (not_last (entries_of core.clients) e j d (subst (λ es. slice_get es j ≡ Some d) has.entries_are there)
        (λ same. apart (ap (table.place_of turn.0) has.entries_are ∙ place ∙ ap Some same))));
    most = subst (λ k. k ≤ 4096) (sym has.most_is) h.most;
    admitted = admitted_few;
    connections = opened_few;
    timers = h.timers;
    no_counts = h.no_counts;
    late = h.late;
  }

  -- the client has taken its first packet
  pub first_sound : (answer : Result Turn Refused) → GoesOnAfter (goes_on e.value.session) answer → e.key.number.0 ≡ admitted_by core.clients → turn.0 ≡ admitted_by core.clients
      → IsSoundAfter goes_on count since (record core { clients = ct; connections = core.connections + 1; last_taken = last; turn = turn }) answer
  first_sound (Ok Going) goes num is = sound_on goes
  first_sound (Ok Ignored) goes num is = sound_on goes
  first_sound (Ok Named) goes num is = sound_on goes
  first_sound (Ok Exchange) goes num is = sound_on goes
  first_sound (Ok (Over cause)) goes num is =
      sound_but (last_place 0 turn.0 core.clients.keys.items core.clients.values.items e
      (subst (λ end. rise_from 0 end core.clients.keys.items ≡ true) (sym is) core.clients.rising) (num ∙ sym is))
  first_sound (Err refused) goes num is = sound_on goes

-- ---- what is staged

all_staged : (n turn : ℕ) (to : Addr) (datagrams : List (List ℕ)) → n ≡ turn → AllByRecursion (λ (s : Staged). s.number ≡ turn) (staged_to n to datagrams)
all_staged n turn to [] is = tt
all_staged n turn to (d ∷ datagrams) is = (is, all_staged n turn to datagrams is)

all_both : {X : Type 0} (P : X → Type 0) (xs ys : List X) → AllByRecursion P xs → AllByRecursion P ys → AllByRecursion P (xs ++ ys)
all_both P [] ys all more = more
all_both P (x ∷ xs) ys all more = (all.0, all_both P xs ys all.1 more)

datagrams_same : (n : ℕ) (to : Addr) (datagrams : List (List ℕ)) → datagrams_to to datagrams ≡ map (λ (s : Staged). s.datagram) (staged_to n to datagrams)
datagrams_same n to [] = refl
datagrams_same n to (d ∷ datagrams) = ap (λ (l : List Datagram). record { to = to; bytes = d } ∷ l) (datagrams_same n to datagrams)

both_effects : (before ce a b : List Action) → ((before ++ ce) ++ a) ++ b ≡ before ++ ((ce ++ a) ++ b)
both_effects before ce a b = ap (λ (l : List Action). l ++ b) (append_assoc before ce a) ∙ append_assoc before (ce ++ a) b

more_staged : (n : ℕ) (to : Addr) (datagrams : List (List ℕ)) (staged : List Staged)
    → map (λ (s : Staged). s.datagram) staged ++ datagrams_to to datagrams ≡ map (λ (s : Staged). s.datagram) (staged ++ staged_to n to datagrams)
more_staged n to datagrams staged =
    ap (λ (l : List Datagram). map (λ (s : Staged). s.datagram) staged ++ l) (datagrams_same n to datagrams)
    ∙ sym (map-append (λ (s : Staged). s.datagram) staged (staged_to n to datagrams))

-- ---- the table

module _ {S : Type 0} (means : S → Peer → Type 0) (before : List Action) (core : ServerCore S) (old new : Contents) (c : Course) (h : CourseStands means before core old c)
    (alone : old.staged ≡ []) (mark : core.mark ≡ 0) (from : Addr) (draw : Draw) (own : Sid) (own_is : own ≡ server.own_sid draw) (opened : Opened) (view : ControlView)
    (used : (opened.id == 0) ≡ false) (first : (opened.first % 8 == 0) ≡ true) (v : ClientState S) (reached : Option Place) (answer : Result Turn Refused) (ct : ClientTable (ClientState S))
    (has : Has ct (entries_of core.clients ++ newcomer (admitted_by core.clients) (ids.free_peer_id (entries_of core.clients)) from opened.sid v ∷ []) (most_of core.clients)
    (admitted_by core.clients + 1)) (free : ids.free_peer_id (entries_of core.clients) ≡ free_peer_id c.table) (turn : Cid) (turn_is : turn.0 ≡ admitted_by core.clients) where
  abbrev pub n : ℕ
  n = length c.table.clients

  abbrev pub o1 : Outcome Turn
  o1 = server.session_begun c.table draw

  abbrev pub c1 : Course
  c1 = server.opened_for from c o1

  abbrev pub x1 : Client
  x1 = server.client_begun c.table from o1.peer

  abbrev pub r : server.ControlPacket
  r = packet_of opened view

  abbrev pub i : Incoming
  i = server.incoming r c1 x1

  abbrev pub o2 : Outcome (Result Turn Refused)
  o2 = control_came o1.peer i

  abbrev pub given : Outcome Turn
  given = began Server (wrapped (keys_of (half core.key.0 (written_half Server)))) own core.settings.timers (record { 0 = core.connections }) core.moment.0

  abbrev pub given_packet : Incoming
  given_packet = boxes.incoming opened view (record { 0 = core.connections + 1 }) false core.moment

  began_same : given ≡ o1
  began_same =
      ap (λ (k : List ℕ). began Server (wrapped (keys_of (half k (written_half Server)))) own core.settings.timers (record { 0 = core.connections }) core.moment.0) h.table.key
      ∙ ap (λ (own : Sid). began Server (server.server_wraps c.table) own core.settings.timers (record { 0 = core.connections }) core.moment.0) own_is
      ∙ ap (λ (s : Settings). began Server (server.server_wraps c.table) (server.own_sid draw) s.timers (record { 0 = core.connections }) core.moment.0) h.table.settings
      ∙ ap (λ (k : ℕ). began Server (server.server_wraps c.table) (server.own_sid draw) c.table.settings.timers (record { 0 = k }) core.moment.0) h.table.connections
      ∙ ap (λ (k : ℕ). began Server (server.server_wraps c.table) (server.own_sid draw) c.table.settings.timers (record { 0 = c.table.connections }) k) h.table.moment

  opened_one : opened_by o1.doings ≡ 1
  opened_one = began_opens (server.server_wraps c.table) (server.own_sid draw) c.table.settings.timers (record { 0 = c.table.connections }) c.table.moment i used first

  next_is : core.connections + 1 ≡ c.table.connections + opened_by o1.doings
  next_is = ap (λ k. k + 1) h.table.connections ∙ ap (λ k. c.table.connections + k) (sym opened_one)

  packet_same : given_packet ≡ i
  packet_same =
      ap (λ (k : ℕ). boxes.incoming opened view (record { 0 = k }) false core.moment) next_is
      ∙ ap (λ (k : ℕ). boxes.incoming opened view (record { 0 = c.table.connections + opened_by o1.doings }) false (record { 0 = k })) h.table.moment

  fixed : o2.peer.remote ≡ Some opened.sid
  fixed = began_remote (server.server_wraps c.table) (server.own_sid draw) c.table.settings.timers (record { 0 = c.table.connections }) c.table.moment i used first

  quiet : opened_by o2.doings ≡ 0
  quiet = first_quiet (server.server_wraps c.table) (server.own_sid draw) c.table.settings.timers (record { 0 = c.table.connections }) c.table.moment i used first

  connections_are : core.connections + 1 ≡ c.table.connections + opened_by o1.doings + opened_by o2.doings
  connections_are = let k = h.table.connections in let a = opened_one in let b = quiet in omega (arith, k, a, b)

  module _ (begins : HasBegun means v reached answer old new from core.moment o1 i) where
    client_stands : IsOfClient means (newcomer (admitted_by core.clients) (ids.free_peer_id (entries_of core.clients)) from opened.sid v) n (server.client_begun c.table from o2.peer)
    client_stands = record {
      number = h.table.admitted;
      peer_id = free;
      address = refl;
      remote = fixed;
      name = refl;
      file = subst (λ (v : ClientState S). FileStands o2.peer.name v.file Unasked) (sym begins.state) tt;
      state = record {
        session = begins.session;
        established = ap (λ (v : ClientState S). option_map established_at v.established) begins.state;
        heard = ap (λ (v : ClientState S). v.heard.0) begins.state ∙ h.table.moment;
        sealed_at = ap (λ (v : ClientState S). v.sealed_at.0) begins.state ∙ h.table.moment;
        bytes_in = ap (λ (v : ClientState S). v.bytes_in) begins.state;
        bytes_out = ap (λ (v : ClientState S). v.bytes_out) begins.state;
      };
    }

    core_more : (last k : Option Place) (clients : List Client) → last ≡ k
        → clients ≡ c.table.clients ++ server.client_begun c.table from o2.peer ∷ []
        → CoreStands means (record core { clients = ct; connections = core.connections + 1; last_taken = last; turn = turn })
        (record c.table { clients = clients; connections = c.table.connections + opened_by o1.doings + opened_by o2.doings; last_taken = k })
    core_more last k clients last_is are =
        let x = server.client_begun c.table from o2.peer in
        subst (λ (clients : List Client). CoreStands means (record core { clients = ct; connections = core.connections + 1; last_taken = last; turn = turn })
        (record c.table { clients = clients; connections = c.table.connections + opened_by o1.doings + opened_by o2.doings; last_taken = k })) (sym are)
        (record {
          settings = h.table.settings;
          key = h.table.key;
          clients = subst (λ es. StandFrom (IsOfClient means) es 0 (c.table.clients ++ x ∷ [])) (sym has.entries_are)
              (stand_more (IsOfClient means) (newcomer (admitted_by core.clients) (ids.free_peer_id (entries_of core.clients)) from opened.sid v) x refl
              c.table.clients (entries_of core.clients) 0 n (omega arith) h.table.clients client_stands);
          admitted = has.admitted_is ∙ ap (λ k. k + 1) h.table.admitted ∙ sym (length_last c.table.clients x);
          most = has.most_is ∙ h.table.most;
          routes = h.table.routes;
          pool = subst (λ taken. pool.Holds core.pool (record { first = first_address c.table.settings; last = last_address c.table.settings; taken = with_held core.held taken }))
              (sym (taken_last c.table.clients x refl)) h.table.pool;
          queue = h.table.queue;
          moment = h.table.moment;
          connections = connections_are;
          bytes_in = h.table.bytes_in;
          bytes_out = h.table.bytes_out;
          count_interval = h.table.count_interval;
          counted_at = h.table.counted_at;
          is_stopped = h.table.is_stopped;
          events = h.table.events;
          last_taken = last_is;
        })

    none_staged : c.staged ≡ []
    none_staged = map_none (λ (s : Staged). s.datagram) c.staged (sym alone ∙ h.outbox.1)

    in_turn : AreInTurn turn.0 core.mark (acted n from o2 c1).staged
    in_turn = record {
      earlier = [];
      own = staged_to n from o1.datagrams ++ staged_to n from o2.datagrams;
      all = ap (λ (l : List Staged). (l ++ staged_to n from o1.datagrams) ++ staged_to n from o2.datagrams) none_staged;
      marked = sym mark;
      before = tt;
      behind = all_both (λ (s : Staged). s.number ≡ turn.0) (staged_to n from o1.datagrams) (staged_to n from o2.datagrams)
          (all_staged n turn.0 from o1.datagrams (sym (turn_is ∙ h.table.admitted))) (all_staged n turn.0 from o2.datagrams (sym (turn_is ∙ h.table.admitted)));
    }

    outbox : Holds new (before ++ (acted n from o2 c1).effects) (map (λ (s : Staged). s.datagram) (acted n from o2 c1).staged)
    outbox = (
      begins.outbox.0 ∙ ap (λ (l : List Action). (l ++ actions_of o1.peer.role o1.doings) ++ actions_of o2.peer.role o2.doings) h.outbox.0
          ∙ both_effects before c.effects (actions_of o1.peer.role o1.doings) (actions_of o2.peer.role o2.doings),
      begins.outbox.1 ∙ ap (λ (l : List Datagram). (l ++ datagrams_to from o1.datagrams) ++ datagrams_to from o2.datagrams) h.outbox.1
          ∙ ap (λ (l : List Datagram). l ++ datagrams_to from o2.datagrams) (more_staged n from o1.datagrams c.staged)
          ∙ more_staged n from o2.datagrams (c.staged ++ staged_to n from o1.datagrams),
    )

    acted_twice : (acted n from o2 c1).table.clients ≡ c.table.clients ++ server.client_begun c.table from o2.peer ∷ []
    acted_twice =
        ap (changed_at n (λ (y : Client). record y { session = o2.peer })) (changed_last (λ (y : Client). record y { session = o1.peer }) c.table.clients x1)
        ∙ changed_last (λ (y : Client). record y { session = o2.peer }) c.table.clients x1

    heard_then : changed_at n (λ (y : Client). record y { heard = c.table.moment }) (acted n from o2 c1).table.clients ≡ c.table.clients ++ server.client_begun c.table from o2.peer ∷ []
    heard_then =
        ap (changed_at n (λ (y : Client). record y { heard = c.table.moment })) acted_twice
        ∙ changed_last (λ (y : Client). record y { heard = c.table.moment }) c.table.clients (server.client_begun c.table from o2.peer)

    course_went : (a : Result Turn Refused) → CourseStands means before
        (record core { clients = ct; connections = core.connections + 1; last_taken = last_after a reached core.last_taken; turn = turn }) new (went n reached (acted n from o2 c1) a)
    course_went (Ok t) = record {
      table = core_more reached reached _ refl heard_then;
      outbox = outbox;
      in_turn = in_turn;
    }
    course_went (Err (BadKey kid)) = record { table = core_more core.last_taken c.table.last_taken _ h.table.last_taken heard_then; outbox = outbox; in_turn = in_turn }
    course_went (Err (Replayed time id)) = record { table = core_more core.last_taken c.table.last_taken _ h.table.last_taken acted_twice; outbox = outbox; in_turn = in_turn }

  -- the client is admitted, and has taken the packet
  pub has_admitted : (last : Option Place) → last ≡ last_after answer reached core.last_taken
      → HasBegun means v reached answer old new from core.moment given given_packet
      → HasTaken means before (record core { clients = ct; connections = core.connections + 1; last_taken = last; turn = turn }) new n r c1 x1 answer
  has_admitted last last_is begins_so =
      let begins : HasBegun means v reached answer old new from core.moment o1 i =
      subst (λ (j : Incoming). HasBegun means v reached answer old new from core.moment o1 j) packet_same
      (subst (λ (o : Outcome Turn). HasBegun means v reached answer old new from core.moment o given_packet) began_same begins_so) in
      subst (λ (last : Option Place). HasTaken means before (record core { clients = ct; connections = core.connections + 1; last_taken = last; turn = turn }) new n r c1 x1 answer)
      (sym last_is)
      (record {
        answered = begins.answer_is;
        course = subst (λ (k : Option Place). CourseStands means before
            (record core { clients = ct; connections = core.connections + 1; last_taken = last_after answer reached core.last_taken; turn = turn }) new (went n k (acted n from o2 c1) answer))
            begins.reached_is (course_went begins answer);
      })

-- the client that was admitted is here
pub here_admitted : (from : Addr) (c : Course) (o : Outcome Turn)
    → client_here (server.opened_for from c o).table (length c.table.clients) ≡ Some (server.client_begun c.table from o.peer)
unfolding client_here
here_admitted from c o =
    let x = server.client_begun c.table from o.peer in
    ap (λ (clients : List Client). if_here (slice_get clients (length c.table.clients))) (changed_last (λ (y : Client). record y { session = o.peer }) c.table.clients x)
    ∙ ap if_here (last_at c.table.clients x)
