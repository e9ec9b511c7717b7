-- Control packets, time, and the packets of clients and of the device.
use Rattle.std.proofs.Common.{◌≡◌, ℕ, zero, suc, ◌==◌, ◌&&◌, not, Bool, true, false, List, [], ◌∷◌, ◌++◌, length, Option, Some, None, refl, nat_lt, nat_le, bytes_eq, codes, Result, Ok, Err}
use Rattle.std.specs.Prelude.{if◌then◌else◌}
use Rattle.vpn_base.specs.declared.address.Addr.{Addr}
use Rattle.vpn_base.specs.declared.address.Ip4.{Ip4}
use Rattle.vpn_base.specs.declared.names.Draw.{Draw}
use Rattle.vpn_base.specs.declared.names.Malformed.{Malformed}
use Rattle.vpn_base.specs.declared.names.Place.{Place}
use Rattle.vpn_links.specs.Actions.{Action, Report, Say, Stop}
use Rattle.vpn_links.specs.declared.notes.Note.TheVariants as notes
use Rattle.opcode_codec.specs.ControlText.{ControlForm, control_of}
use Rattle.opcode_codec.specs.DataPacket.{DataForm}
use Rattle.opcode_codec.specs.declared.opcodes.Opcode.{Opcode}
use Rattle.tls_crypt.specs.Packets.{Packet}
use Rattle.tls_crypt.specs.Unwrapping.{unwrapping}
use Rattle.ip_packets.specs.Inner.{source}
use Rattle.route_table.specs.Learned.{is_learned}
use Rattle.inner_verdict.specs.declared.Verdict.{Verdict}
use Rattle.inner_verdict.specs.declared.Verdict.TheVariants.{NotIp, TooLong, Multicast, BadSource, ToClient, ToDevice, NoRoute}
use Rattle.inner_verdict.specs.Verdict.{verdict}
use Rattle.route_table.specs.Owner.{owner}
use Rattle.peer_table.specs.declared.outcomes.Refused.{Refused}
use Rattle.peer_table.specs.declared.outcomes.Refused.TheVariants.{Replayed, BadKey}
use Rattle.peer_table.specs.declared.outcomes.SessionFault.{SessionFault}
use Rattle.peer_table.specs.declared.outcomes.SessionFault.TheVariants as faults
use Rattle.peer_table.specs.declared.outcomes.Turn.{Turn}
use Rattle.peer_table.specs.ControlPackets.{control_came, sid_of}
use Rattle.peer_table.specs.DataPackets as packets
use Rattle.peer_table.specs.Peer.{Peer}
use Rattle.peer_table.specs.Time.{ticked}
use Rattle.server_table.specs.Table.{Client}
use Rattle.server_table.specs.Lookups.{by_peer_id, by_session, cid, client_here, is_address, is_full}
use Rattle.server_table.specs.Courses.{Course, acted, client_changed}
use Rattle.server_table.specs.Endings.{turned}
use Rattle.server_table.specs.ControlDatagrams.{ControlPacket, admitted, admitted_unless_full, begins_client, client_begun, client_wraps, control_answered, control_arrived, control_at, control_for, control_read, control_place, control_unwrapped, first_of, incoming, of_nobody, session_begun, to_client, with_admitted, with_fresh}
use Rattle.server_table.specs.DataDatagrams.{FromWire, accepted, carried, carried_as, data_at, data_came, data_for, data_place, is_taken, moved, moved_if, opened_as, passed, ping, refused, went_to, with_opened}
use Rattle.server_table.specs.InnerPackets.{dequeued, device_ready, is_host_of, learned, learned_unless_lacking, learned_where, most_queued, queued, queued_unless_full, sealed_for, sealed_to}
use Rattle.server_table.specs.Step.{device_came, device_passed, halted, line_came, line_said}
use Rattle.server_table.specs.Time.{client_ticked, clients_ticked, count_line_if, count_lines, counts_are_due, is_counted, ping_is_due, pinged, pinged_if, tick, tick_for, ticking_for, told_counts}
use Rattle.server_laws.specs.HandedOn.{carrying}
use Rattle.server_table.proofs.Places.{get_last}
use Rattle.server_laws.proofs.CallsKeep.{call_same, control_call, data_call, tick_call}
use Rattle.server_laws.proofs.Closed.{DealsWith, Goes, IsClosed, SealsOf, acted_kept, altered, here_from, reported_kept, turned_kept}
use Rattle.server_laws.proofs.Verdicts.{owned_to_client, owned_to_device}

-- ---- byte counts

line_if_quiet : (n : ℕ) (x : Client) (lines : List Action) (b : Bool) → carrying lines ≡ [] → carrying (count_line_if n x lines b) ≡ []
line_if_quiet n x lines true quiet = quiet
line_if_quiet n x lines false quiet = quiet

pub lines_quiet : (n : ℕ) (clients : List Client) → carrying (count_lines n clients) ≡ []
lines_quiet n [] = refl
lines_quiet n (x ∷ clients) = line_if_quiet n x (count_lines (suc n) clients) (is_counted x) (lines_quiet (suc n) clients)

pub last_here : (from : Addr) (c : Course) (peer : Peer) →
    client_here (with_admitted (client_begun c.table from peer) c).table (length c.table.clients) ≡ Some (client_begun c.table from peer)
last_here from c peer =
    here_from (with_admitted (client_begun c.table from peer) c).table (length c.table.clients) (client_begun c.table from peer)
    (get_last c.table.clients (client_begun c.table from peer)) refl

module _ {P : Course → Type 0} (closed : IsClosed P) where
  -- ---- a control packet

  module _ (goes : Goes P) where
    fresh_kept : (n now : ℕ) (c : Course) → P c → P (client_changed n (with_fresh now) c)
    fresh_kept n now c is = closed.alters n (with_fresh now) c (λ y there. record { here = refl; peer_id = refl; established = refl; session = call_same y.session; file = λ ccd e. e }) is

    pub answered_kept : (n : ℕ) (to : Option Place) (c : Course) (answer : Result Turn Refused) → P c → P (control_answered n to c answer)
    answered_kept n to c (Ok turn) is =
        let d : Course = record c { table = went_to to c.table } in
        turned_kept closed n turn (client_changed n (with_fresh c.table.moment) d) (fresh_kept n c.table.moment d (goes to c is))
    answered_kept n to c (Err (BadKey kid)) is =
        reported_kept closed (notes.BadKey (cid n) kid) (client_changed n (with_fresh c.table.moment) c) (fresh_kept n c.table.moment c is)
    answered_kept n to c (Err (Replayed time id)) is = reported_kept closed (notes.Replayed time id) c is

    control_for_kept : (r : ControlPacket) (n : ℕ) (c : Course) (x : Option Client) → client_here c.table n ≡ x → P c → P (control_for r n c x)
    control_for_kept r n c None here is = is
    control_for_kept r n c (Some x) here is =
        let i = incoming r c x in
        let o = control_came x.session i in
        answered_kept n (control_place i x.session o.peer) (acted n x.address o c) o.answer (acted_kept closed n x o c here (control_call x.session i) is)

    to_client_kept : (r : ControlPacket) (n : ℕ) (c : Course) → P c → P (to_client r n c)
    unfolding to_client
    to_client_kept r n c is = control_for_kept r n c (client_here c.table n) refl is

    admitted_kept : (d : FromWire) (draw : Draw) (r : ControlPacket) (c : Course) → P c → P (admitted d draw r c)
    admitted_kept d draw r c is =
        let o = session_begun c.table draw in
        let x = client_begun c.table d.from o.peer in
        let e = with_admitted x c in
        to_client_kept r (length c.table.clients) (acted (length c.table.clients) d.from o e)
        (closed.acts (length c.table.clients) x o e (last_here d.from c o.peer) (call_same o.peer) (closed.admits d.from draw c is))

    wrapped_kept : (d : FromWire) (draw : Draw) (r : ControlPacket) (c : Course) (b : Bool) → P c →
        P (if b then (let e : Course = record c { effects = c.effects ++ Report (notes.Replayed r.packet.time r.packet.id) ∷ [] } in e) else admitted d draw r c)
    wrapped_kept d draw r c true is = reported_kept closed (notes.Replayed r.packet.time r.packet.id) c is
    wrapped_kept d draw r c false is = admitted_kept d draw r c is

    unless_full_kept : (d : FromWire) (draw : Draw) (r : ControlPacket) (c : Course) (b : Bool) → P c → P (admitted_unless_full d draw r c b)
    unless_full_kept d draw r c true is = reported_kept closed (notes.Full c.table.settings.max_clients) c is
    unless_full_kept d draw r c false is = wrapped_kept d draw r c (r.packet.id == 0) is

    nobody_kept : (d : FromWire) (draw : Draw) (r : ControlPacket) (c : Course) (b : Bool) → P c → P (of_nobody d draw r c b)
    nobody_kept d draw r c true is = unless_full_kept d draw r c (is_full c.table) is
    nobody_kept d draw r c false is = reported_kept closed (notes.UnknownSession (sid_of r.packet)) c is

    at_kept : (d : FromWire) (draw : Draw) (op : Opcode) (r : ControlPacket) (c : Course) (n : Option ℕ) → P c → P (control_at d draw op r c n)
    at_kept d draw op r c (Some n) is = to_client_kept r n c is
    at_kept d draw op r c None is = nobody_kept d draw r c (begins_client op r) is

    read_kept : (d : FromWire) (draw : Draw) (op : Opcode) (p : Packet) (c : Course) (form : Result ControlForm Malformed) → P c → P (control_read d draw op p c form)
    read_kept d draw op p c (Err e) is = reported_kept closed (notes.Malformed e (first_of d.bytes)) c is
    read_kept d draw op p c (Ok form) is = at_kept d draw op (record { packet = p; form = form }) c (by_session c.table d.from (sid_of p)) is

    unwrapped_kept : (d : FromWire) (draw : Draw) (op : Opcode) (c : Course) (p : Option Packet) → P c → P (control_unwrapped d draw op c p)
    unwrapped_kept d draw op c None is = reported_kept closed notes.NotWrapped c is
    unwrapped_kept d draw op c (Some p) is = read_kept d draw op p c (control_of op p.plain) is

    pub arrived_kept : (d : FromWire) (draw : Draw) (op : Opcode) (c : Course) → P c → P (control_arrived d draw op c)
    unfolding control_arrived
    arrived_kept d draw op c is = unwrapped_kept d draw op c (unwrapping (client_wraps c.table) d.bytes) is

  -- ---- lines, and the end

  said_kept : (c : Course) (b : Bool) → P c → P (line_said c b)
  said_kept c true is = closed.quiet (Say (codes "ERROR: command too long") ∷ []) c refl is
  said_kept c false is = closed.quiet (Say (codes "ERROR: unknown command") ∷ []) c refl is

  pub line_kept : (bytes : List ℕ) (c : Course) → P c → P (line_came bytes c)
  line_kept [] c is = is
  line_kept (b ∷ bytes) c is = said_kept c (nat_lt 256 (length (b ∷ bytes))) is

  pub halted_kept : (c : Course) → P c → P (halted c)
  halted_kept c is =
      let d : Course = record c { table = record c.table { is_stopped = true } } in
      closed.quiet (Stop ∷ []) d refl (closed.other c.table.counted_at c.table.bytes_in c.table.bytes_out true c is)

  -- ---- sealing

  sealed_for_kept : (inner : List ℕ) → SealsOf P inner → (n : ℕ) (c : Course) (x : Option Client) → client_here c.table n ≡ x → P c → P (sealed_for n inner c x)
  sealed_for_kept inner seals n c None here is = is
  sealed_for_kept inner seals n c (Some x) here is = seals.seals n x c here is

  pub sealed_to_kept : (inner : List ℕ) → SealsOf P inner → (n : ℕ) (c : Course) → P c → P (sealed_to n inner c)
  unfolding sealed_to
  sealed_to_kept inner seals n c is = sealed_for_kept inner seals n c (client_here c.table n) refl is

  -- ---- time

  module _ (pings : SealsOf P ping) where
    pinged_if_kept : (n : ℕ) (c : Course) (b : Bool) → P c → P (pinged_if n c b)
    pinged_if_kept n c true is = sealed_to_kept ping pings n c is
    pinged_if_kept n c false is = is

    pinged_kept : (n : ℕ) (c : Course) (x : Option Client) → P c → P (pinged n c x)
    pinged_kept n c None is = is
    pinged_kept n c (Some x) is = pinged_if_kept n c (ping_is_due c.table.settings.keepalive c.table.moment x) is

    tick_for_kept : (n : ℕ) (c : Course) (x : Option Client) → client_here c.table n ≡ x → P c → P (tick_for n c x)
    tick_for_kept n c None here is = is
    tick_for_kept n c (Some x) here is =
        let o = ticked (ticking_for c.table x) x.session in
        let d = turned n o.answer (acted n x.address o c) in
        pinged_kept n d (client_here d.table n)
        (turned_kept closed n o.answer (acted n x.address o c) (closed.acts n x o c here (tick_call (ticking_for c.table x) x.session) is))

    client_ticked_kept : (n : ℕ) (c : Course) → P c → P (client_ticked n c)
    unfolding client_ticked
    client_ticked_kept n c is = tick_for_kept n c (client_here c.table n) refl is

    clients_ticked_kept : (most n : ℕ) (c : Course) → P c → P (clients_ticked most n c)
    unfolding clients_ticked
    clients_ticked_kept zero n c is = is
    clients_ticked_kept (suc most) n c is = clients_ticked_kept most (suc n) (client_ticked n c) (client_ticked_kept n c is)

    told_counts_kept : (c : Course) (b : Bool) → P c → P (told_counts c b)
    told_counts_kept c false is = is
    told_counts_kept c true is =
        let d : Course = record c { table = record c.table { counted_at = c.table.moment } } in
        closed.quiet (count_lines 0 c.table.clients) d (lines_quiet 0 c.table.clients)
        (closed.other c.table.moment c.table.bytes_in c.table.bytes_out c.table.is_stopped c is)

    pub tick_course_kept : (c : Course) → P c → P (tick c)
    unfolding tick
    tick_course_kept c is =
        let d = clients_ticked (length c.table.clients) 0 c in
        told_counts_kept d (counts_are_due d.table) (clients_ticked_kept (length c.table.clients) 0 c is)

  -- ---- a data packet, up to where it is carried

  pub accepted_kept : Goes P → (d : FromWire) (n : ℕ) (x : Client) (c : Course) → client_here c.table n ≡ Some x → P c →
      P (accepted d n x c (packets.data_came d.bytes (record { 0 = c.table.moment }) x.session).peer)
  accepted_kept goes d n x c here is =
      let peer = (packets.data_came d.bytes (record { 0 = c.table.moment }) x.session).peer in
      let f : Client → Client = with_opened c.table.moment peer (length d.bytes) in
      let d1 : Course = client_changed n f c in
      let e = accepted d n x c peer in
      closed.other e.table.counted_at e.table.bytes_in e.table.bytes_out e.table.is_stopped (record d1 { table = went_to (data_place c.table.moment d.bytes x.session) d1.table })
      (goes (data_place c.table.moment d.bytes x.session) d1 (altered closed n x f c here (record {
        here = refl;
        peer_id = refl;
        established = refl;
        session = data_call d.bytes (record { 0 = c.table.moment }) x.session;
        file = λ ccd e. e;
      }) is))

  moved_if_kept : (n : ℕ) (from : Addr) (c : Course) (b : Bool) → P c → P (moved_if n from c b)
  moved_if_kept n from c false is = is
  moved_if_kept n from c true is =
      let f : Client → Client = λ x. record x { address = from } in
      reported_kept closed (notes.Moved (cid n) from) (client_changed n f c)
      (closed.alters n f c (λ y there. record { here = refl; peer_id = refl; established = refl; session = call_same y.session; file = λ ccd e. e }) is)

  pub moved_kept : (n : ℕ) (from : Addr) (x : Client) (c : Course) → P c → P (moved n from x c)
  moved_kept n from x c is = moved_if_kept n from c (not (is_address x.address from) && not (is_taken c.table n from x.session.remote)) is

  pub refused_kept : Goes P → (d : FromWire) (n : ℕ) (x : Client) (c : Course) (fault : SessionFault) → P c → P (refused d n x c fault)
  refused_kept goes d n x c (faults.BadKey kid) is = reported_kept closed (notes.BadKey (cid n) kid) c is
  refused_kept goes d n x c faults.NotSealed is = reported_kept closed (notes.NotSealed (cid n)) c is
  refused_kept goes d n x c (faults.Stale kind id greatest) is =
      reported_kept closed (notes.Stale (cid n) kind id greatest) (record c { table = went_to (data_place c.table.moment d.bytes x.session) c.table })
      (goes (data_place c.table.moment d.bytes x.session) c is)

  -- ---- where packets go

  module _ (deals : DealsWith P) where
    learned_unless_kept : (n : ℕ) (host : Ip4) (c : Course) (b : Bool) → owner c.table.routes.rows host ≡ Some (cid n) → P c → P (learned_unless_lacking n host c b)
    learned_unless_kept n host c true owned is = reported_kept closed (notes.NotLearned (cid n) host) c is
    learned_unless_kept n host c false owned is = deals.learns n host c owned is

    learned_where_kept : (lacks : Bool) (n : ℕ) (host : Ip4) (c : Course) (b : Bool) → owner c.table.routes.rows host ≡ Some (cid n) → P c → P (learned_where lacks n host c b)
    learned_where_kept lacks n host c true owned is = learned_unless_kept n host c (lacks && not (is_learned c.table.routes.learned host)) owned is
    learned_where_kept lacks n host c false owned is = is

    pub learned_kept : (lacks : Bool) (n : ℕ) (host : Ip4) (c : Course) → owner c.table.routes.rows host ≡ Some (cid n) → P c → P (learned lacks n host c)
    unfolding learned
    learned_kept lacks n host c owned is = learned_where_kept lacks n host c (is_host_of host (client_here c.table n)) owned is

    queued_unless_kept : (n : ℕ) (inner : List ℕ) (c : Course) (b : Bool) → nat_le most_queued (length c.table.queue) ≡ b → P c → P (queued_unless_full n inner c b)
    queued_unless_kept n inner c true full is = reported_kept closed (notes.QueueFull (cid n)) c is
    queued_unless_kept n inner c false full is = deals.queues inner c full is

    queued_kept : (n : ℕ) (inner : List ℕ) (c : Course) → P c → P (queued n inner c)
    unfolding queued
    queued_kept n inner c is = queued_unless_kept n inner c (nat_le most_queued (length c.table.queue)) refl is

    dequeued_kept : (c : Course) (queue : List (List ℕ)) → c.table.queue ≡ queue → P c → P (dequeued c queue)
    dequeued_kept c [] same is = is
    dequeued_kept c (packet ∷ packets) same is = deals.dequeues packet packets c same is

    pub device_ready_kept : (c : Course) → P c → P (device_ready c)
    unfolding device_ready
    device_ready_kept c is = dequeued_kept c c.table.queue refl is

    passed_kept : (lacks : Bool) (n : ℕ) (inner : List ℕ) (c : Course) (v : Verdict) →
        verdict c.table.routes.rows c.table.settings.net c.table.settings.between (Some (cid n)) inner ≡ v → P c → P (passed lacks n inner c v)
    passed_kept lacks n inner c NotIp v is = reported_kept closed (notes.NotIp (Some (cid n))) c is
    passed_kept lacks n inner c TooLong v is = reported_kept closed (notes.TooLong (Some (cid n))) c is
    passed_kept lacks n inner c Multicast v is = reported_kept closed (notes.Multicast (Some (cid n))) c is
    passed_kept lacks n inner c (BadSource owner) v is = reported_kept closed (notes.BadSource (cid n) owner) c is
    passed_kept lacks n inner c (ToClient target) v is =
        sealed_to_kept inner (deals.seals inner) target.0 (learned lacks n (source inner) c)
        (learned_kept lacks n (source inner) c (owned_to_client c.table.routes.rows c.table.settings.net c.table.settings.between n inner target v) is)
    passed_kept lacks n inner c ToDevice v is =
        queued_kept n inner (learned lacks n (source inner) c)
        (learned_kept lacks n (source inner) c (owned_to_device c.table.routes.rows c.table.settings.net c.table.settings.between n inner v) is)
    passed_kept lacks n inner c NoRoute v is = reported_kept closed notes.NoRoute c is

    carried_as_kept : (lacks : Bool) (n : ℕ) (inner : List ℕ) (c : Course) (b : Bool) → P c → P (carried_as lacks n inner c b)
    carried_as_kept lacks n inner c true is = reported_kept closed (notes.Ping (cid n)) c is
    carried_as_kept lacks n inner c false is =
        passed_kept lacks n inner c (verdict c.table.routes.rows c.table.settings.net c.table.settings.between (Some (cid n)) inner) refl is

    pub carried_kept : (lacks : Bool) (n : ℕ) (inner : List ℕ) (c : Course) → P c → P (carried lacks n inner c)
    unfolding carried
    carried_kept lacks n inner c is = carried_as_kept lacks n inner c (bytes_eq inner ping) is

    opened_as_kept : Goes P → (d : FromWire) (n : ℕ) (x : Client) (c : Course) (r : Result (List ℕ) SessionFault) → client_here c.table n ≡ Some x → P c →
        P (opened_as d n x c (packets.data_came d.bytes (record { 0 = c.table.moment }) x.session).peer r)
    opened_as_kept goes d n x c (Err fault) here is = refused_kept goes d n x c fault is
    opened_as_kept goes d n x c (Ok inner) here is =
        let e = accepted d n x c (packets.data_came d.bytes (record { 0 = c.table.moment }) x.session).peer in
        carried_kept d.lacks n inner (moved n d.from x e) (moved_kept n d.from x e (accepted_kept goes d n x c here is))

    data_for_kept : Goes P → (d : FromWire) (n : ℕ) (c : Course) (x : Option Client) → client_here c.table n ≡ x → P c → P (data_for d n c x)
    data_for_kept goes d n c None here is = is
    data_for_kept goes d n c (Some x) here is = opened_as_kept goes d n x c (packets.data_came d.bytes (record { 0 = c.table.moment }) x.session).answer here is

    data_at_kept : Goes P → (d : FromWire) (peer : ℕ) (c : Course) (n : Option ℕ) → P c → P (data_at d peer c n)
    data_at_kept goes d peer c None is = reported_kept closed (notes.UnknownPeer peer) c is
    data_at_kept goes d peer c (Some n) is = data_for_kept goes d n c (client_here c.table n) refl is

    pub data_course_kept : Goes P → (d : FromWire) (f : DataForm) (c : Course) → P c → P (data_came d f c)
    unfolding data_came
    data_course_kept goes d f c is = data_at_kept goes d f.peer c (by_peer_id c.table f.peer) is

    device_passed_kept : (inner : List ℕ) (c : Course) (v : Verdict) → P c → P (device_passed inner c v)
    device_passed_kept inner c NotIp is = reported_kept closed (notes.NotIp None) c is
    device_passed_kept inner c TooLong is = reported_kept closed (notes.TooLong None) c is
    device_passed_kept inner c Multicast is = reported_kept closed (notes.Multicast None) c is
    device_passed_kept inner c (BadSource owner) is = is
    device_passed_kept inner c (ToClient target) is = sealed_to_kept inner (deals.seals inner) target.0 c is
    device_passed_kept inner c ToDevice is = is
    device_passed_kept inner c NoRoute is = reported_kept closed notes.NoRoute c is

    pub device_came_kept : (inner : List ℕ) (c : Course) → P c → P (device_came inner c)
    unfolding device_came
    device_came_kept inner c is = device_passed_kept inner c (verdict c.table.routes.rows c.table.settings.net c.table.settings.between None inner) is
