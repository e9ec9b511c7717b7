-- To which key session the last datagram went.
use Rattle.std.proofs.Common.{◌≡◌, ℕ, zero, suc, Bool, true, false, not, List, [], ◌∷◌, ◌++◌, length, map, Option, Some, None, refl, sym, ap, ◌∙◌, subst, inl, inr, Result, Ok, Err, ◌==◌, ◌+◌}
use Rattle.std.specs.Prelude.{◌⊎◌, ◌&&◌, slice_get, IfSome, nat_le, if◌then◌else◌}
use Rattle.std.specs.Str.{bytes_eq}
use Rattle.vpn_base.specs.declared.address.Addr.{Addr}
use Rattle.vpn_base.specs.declared.address.Ip4.{Ip4}
use Rattle.vpn_base.specs.declared.names.Cause.{Cause}
use Rattle.vpn_base.specs.declared.names.Draw.{Draw}
use Rattle.vpn_base.specs.declared.names.Freshness.{Freshness}
use Rattle.vpn_base.specs.declared.names.Freshness.TheVariants.{Fresh, Zero, Old, Seen, Late}
use Rattle.vpn_base.specs.declared.names.Malformed.{Malformed}
use Rattle.vpn_base.specs.declared.names.Moment.{Moment}
use Rattle.vpn_base.specs.declared.names.Place.{Place}
use Rattle.vpn_links.specs.Actions.{Report}
use Rattle.vpn_links.specs.Steps.{Lack, LacksAll, LacksHost, LacksNothing}
use Rattle.vpn_links.specs.declared.events.Event.{Event}
use Rattle.vpn_links.specs.declared.events.Kind.{Kind}
use Rattle.vpn_links.specs.declared.events.Kind.TheVariants.{Datagram}
use Rattle.vpn_links.specs.declared.notes.Note.TheVariants as notes
use Rattle.opcode_codec.specs.ControlText.{ControlForm, control_of}
use Rattle.opcode_codec.specs.DataPacket.{DataForm}
use Rattle.opcode_codec.specs.Packet.{PacketForm, Wrapped, Inner, packet_of}
use Rattle.opcode_codec.specs.declared.opcodes.Opcode.{Opcode}
use Rattle.packet_ids.specs.Freshness.{freshness, recorded}
use Rattle.packet_ids.specs.declared.sending.Spent.{Spent}
use Rattle.tls_crypt.specs.Packets.{Packet}
use Rattle.tls_crypt.specs.Unwrapping.{unwrapping}
use Rattle.ip_packets.specs.Inner.{source}
use Rattle.inner_verdict.specs.declared.Verdict.{Verdict}
use Rattle.inner_verdict.specs.declared.Verdict.TheVariants.{NotIp, TooLong, Multicast, BadSource, ToClient, ToDevice, NoRoute}
use Rattle.inner_verdict.specs.Verdict.{verdict}
use Rattle.route_table.specs.Learned.{is_learned}
use Rattle.peer_table.specs.declared.outcomes.Refused.{Refused}
use Rattle.peer_table.specs.declared.outcomes.Refused.TheVariants.{Replayed, BadKey}
use Rattle.peer_table.specs.declared.outcomes.SessionFault.{SessionFault}
use Rattle.peer_table.specs.declared.outcomes.SessionFault.TheVariants as faults
use Rattle.peer_table.specs.declared.outcomes.Turn.{Turn}
use Rattle.peer_table.specs.declared.outcomes.Turn.TheVariants.{Going, Ignored, Named, Exchange, Over}
use Rattle.peer_table.specs.ControlPackets.{control_came, kid_in, sid_of}
use Rattle.peer_table.specs.DataPackets as packets
use Rattle.peer_table.specs.KeySessions.{Keys, Session, closed, keys_of, kid_of, live_with, newest_usable, session_at, usable_with}
use Rattle.peer_table.specs.Naming.{number_of, place_at, place_numbered, place_of}
use Rattle.peer_table.specs.Peer.{Peer, other}
use Rattle.peer_table.specs.Places.{changed_at}
use Rattle.peer_table.specs.Time.{all_closed}
use Rattle.server_table.specs.Table.{Client, Table}
use Rattle.server_table.specs.Lookups.{by_peer_id, by_session, cid, client_here, is_address, is_full}
use Rattle.server_table.specs.Courses.{Course, acted, client_changed}
use Rattle.server_table.specs.ControlDatagrams.{ControlPacket, admitted, admitted_unless_full, begins_client, client_wraps, control_answered, control_arrived, control_at, control_for, control_place, control_read, control_unwrapped, incoming, of_nobody, opened_for, session_begun, to_client, with_fresh}
use Rattle.server_table.specs.DataDatagrams.{FromWire, accepted, carried, carried_as, data_at, data_came, data_for, data_place, is_taken, moved, moved_if, opened_as, passed, ping, place_found, refused, went_to, with_opened}
use Rattle.server_table.specs.Endings.{ended, ended_as, gone, turned}
use Rattle.server_table.specs.InnerPackets.{is_host_of, learned, learned_unless_lacking, learned_where, most_queued, queued, queued_unless_full, sealed_as, sealed_for, sealed_to, with_sent}
use Rattle.server_table.specs.Runs.{Entry, after, after_all, after_lacking}
use Rattle.server_table.specs.Sound.{IsSound}
use Rattle.server_table.specs.Step.{came, course_begun, datagram_as, is_over, moment_of, step}
use Rattle.server_laws.specs.Accepted.{Accepts}
use Rattle.server_laws.specs.LastTaken.{IsApart, IsPlaceAmong, IsPlaceOf, TellsPlace, WentToSession}
use Rattle.server_laws.specs.WellKept.{IsWellKept}
use Rattle.server_table.proofs.Keeps.{here_at}
use Rattle.server_laws.proofs.Closed.{DealsWith, IsClosed, at_place}
use Rattle.server_laws.proofs.Everything.{came_apart, seals_all}
use Rattle.server_table.proofs.Places.{get_changed, none_some, some_same, went_changed}
use Rattle.server_laws.proofs.Steps.{accepted_step, by_over, found_from, here_begun, step_goes}

-- ---- calls that leave the places of key sessions

abbrev KeepsPlaces : Peer → Peer → Type 0
KeepsPlaces p q = (k : ℕ) (at : Place) → place_numbered k p ≡ Some at → place_numbered k q ≡ Some at

same_places : (p : Peer) → KeepsPlaces p p
same_places p k at e = e

changed_sessions : (n : ℕ) (f : Session → Session) (p : Peer) → ((s : Session) → (f s).link ≡ s.link) → KeepsPlaces p (record p { sessions = changed_at n f p.sessions })
unfolding place_numbered
changed_sessions n f p link k at e = by (slice_get p.sessions k) refl e
  where
    q : Peer
    q = record p { sessions = changed_at n f p.sessions }

    by : (o : Option Session) → slice_get p.sessions k ≡ o → place_at p (Some k) o ≡ Some at → place_at q (Some k) (slice_get q.sessions k) ≡ Some at
    by None there e = absurd (none_some e)
    by (Some s) there e = go (went_changed n k f p.sessions s there)
      where
        go : ((k ≡ n) × (slice_get (changed_at n f p.sessions) k ≡ Some (f s))) ⊎ (slice_get (changed_at n f p.sessions) k ≡ Some s) →
            place_at q (Some k) (slice_get q.sessions k) ≡ Some at
        go (inl w) = ap (place_at q (Some k)) w.1 ∙ ap (λ l. Some (record { conn = l.conn; own = p.envelope.own; peer = p.remote; number = k })) (link s) ∙ e
        go (inr w) = ap (place_at q (Some k)) w ∙ e

map_at : (sessions : List Session) (k : ℕ) (s : Session) → slice_get sessions k ≡ Some s → slice_get (map closed sessions) k ≡ Some (closed s)
map_at [] k s e = absurd (none_some e)
map_at (t ∷ sessions) zero s e = ap (λ (s : Session). Some (closed s)) (some_same e)
map_at (t ∷ sessions) (suc k) s e = map_at sessions k s e

closed_sessions : (p : Peer) → KeepsPlaces p (all_closed p)
unfolding place_numbered
closed_sessions p k at e = by (slice_get p.sessions k) refl e
  where
    by : (o : Option Session) → slice_get p.sessions k ≡ o → place_at p (Some k) o ≡ Some at → place_at (all_closed p) (Some k) (slice_get (all_closed p).sessions k) ≡ Some at
    by None there e = absurd (none_some e)
    by (Some s) there e = ap (place_at (all_closed p) (Some k)) (map_at p.sessions k s there) ∙ e

sealed_by_places : (p : Peer) (inner : List ℕ) (n : ℕ) (s : Session) (k : Option Keys) (b : Bool) → KeepsPlaces p (packets.sealed_by p inner n s k b).peer
sealed_by_places p inner n s (Some k) false = changed_sessions n (λ s. record s { sealed = s.sealed + 1 }) p (λ s. refl)
sealed_by_places p inner n s (Some k) true = same_places p
sealed_by_places p inner n s None b = same_places p

sealed_in_places : (p : Peer) (inner : List ℕ) (n : Option ℕ) (s : Option Session) → KeepsPlaces p (packets.sealed_in p inner n s).peer
sealed_in_places p inner (Some n) (Some s) = sealed_by_places p inner n s (keys_of s.stage) (packets.ids_are_spent s)
sealed_in_places p inner (Some n) None = same_places p
sealed_in_places p inner None s = same_places p

sealed_places : (inner : List ℕ) (p : Peer) → KeepsPlaces p (packets.sealed_to inner p).peer
unfolding packets.sealed_to
sealed_places inner p = sealed_in_places p inner (newest_usable p.sessions) (session_at p.sessions (newest_usable p.sessions))

judged_places : (p : Peer) (n : ℕ) (s : Session) (m : Moment) (id : ℕ) (inner : List ℕ) (f : Freshness) → KeepsPlaces p (packets.opened_judged p n s m id inner f).peer
judged_places p n s m id inner Fresh = changed_sessions n (λ s. record s { received = recorded s.received id m }) p (λ s. refl)
judged_places p n s m id inner Zero = same_places p
judged_places p n s m id inner Old = same_places p
judged_places p n s m id inner Seen = same_places p
judged_places p n s m id inner Late = same_places p

opened_as_places : (p : Peer) (n : ℕ) (s : Session) (m : Moment) (o : Option (ℕ × List ℕ)) → KeepsPlaces p (packets.opened_as p n s m o).peer
opened_as_places p n s m None = same_places p
opened_as_places p n s m (Some o) = judged_places p n s m o.0 o.1 (freshness s.received o.0 m)

opened_by_places : (p : Peer) (datagram : List ℕ) (n : ℕ) (s : Session) (m : Moment) (k : Option Keys) → KeepsPlaces p (packets.opened_by p datagram n s m k).peer
opened_by_places p datagram n s m None = same_places p
opened_by_places p datagram n s m (Some k) = opened_as_places p n s m (packets.opened_under (other p.role) k (kid_of n) datagram)

opened_in_places : (p : Peer) (datagram : List ℕ) (m : Moment) (n : Option ℕ) (s : Option Session) → KeepsPlaces p (packets.opened_in p datagram m n s).peer
opened_in_places p datagram m (Some n) (Some s) = opened_by_places p datagram n s m (keys_of s.stage)
opened_in_places p datagram m (Some n) None = same_places p
opened_in_places p datagram m None s = same_places p

opened_places : (datagram : List ℕ) (m : Moment) (p : Peer) → KeepsPlaces p (packets.data_came datagram m p).peer
unfolding packets.data_came
opened_places datagram m p =
    let n = usable_with p.timers m.0 p.sessions (packets.data_kid datagram) in
    opened_in_places p datagram m n (session_at p.sessions n)

-- ---- a place among clients

changed_place : (n : ℕ) (f : Client → Client) (clients : List Client) (m k : ℕ) (at : Place) → ((y : Client) → slice_get clients n ≡ Some y → KeepsPlaces y.session (f y).session) →
    IsPlaceOf clients m k at → IsPlaceOf (changed_at n f clients) m k at
changed_place n f clients m k at keeps is = go (went_changed n m f clients is.client is.there)
  where
    go : ((m ≡ n) × (slice_get (changed_at n f clients) m ≡ Some (f is.client))) ⊎ (slice_get (changed_at n f clients) m ≡ Some is.client) →
        IsPlaceOf (changed_at n f clients) m k at
    go (inl w) = record {
      client = f is.client;
      there = w.1;
      is_place = keeps is.client (subst (λ i. slice_get clients i ≡ Some is.client) w.0 is.there) k at is.is_place;
    }
    go (inr w) = record { client = is.client; there = w; is_place = is.is_place }

-- a datagram went there, which is the place of this key session of this client, if it is any
pub record WentTo (m k : ℕ) (to : Option Place) (last : Option Place) (clients : List Client) : Type 0 where
  pub is_last : last ≡ to
  pub is_there : (at : Place) → to ≡ Some at → IsPlaceOf clients m k at

abbrev Went : ℕ → ℕ → Option Place → Course → Type 0
Went m k to c = WentTo m k to c.table.last_taken c.table.clients

told_by : (m k : ℕ) (to last : Option Place) (clients : List Client) → WentTo m k to last clients → IfSome to (IsPlaceAmong clients)
told_by m k None last clients is = tt
told_by m k (Some at) last clients is = record { number = m; session = k; is_theirs = is.is_there at refl }

tells : (m k : ℕ) (to : Option Place) (c : Course) → Went m k to c → TellsPlace c.table
tells m k to c is = subst (λ (o : Option Place). IfSome o (IsPlaceAmong c.table.clients)) (sym is.is_last) (told_by m k to c.table.last_taken c.table.clients is)

tells_none : (c : Course) → c.table.last_taken ≡ None → TellsPlace c.table
tells_none c is = subst (λ (o : Option Place). IfSome o (IsPlaceAmong c.table.clients)) (sym is) tt

module _ {m k : ℕ} {to : Option Place} where
  went_changes : {last : Option Place} {clients : List Client} (n : ℕ) (f : Client → Client) → ((y : Client) → slice_get clients n ≡ Some y → KeepsPlaces y.session (f y).session) →
      WentTo m k to last clients → WentTo m k to last (changed_at n f clients)
  went_changes {clients = clients} n f keeps is = record {
    is_last = is.is_last;
    is_there = λ at e. changed_place n f clients m k at keeps (is.is_there at e);
  }

  went_ended : (n : ℕ) (cause : Cause) (c : Course) (x : Option Client) → Went m k to c → Went m k to (ended_as n cause c x)
  went_ended n cause c None is = is
  went_ended n cause c (Some x) is = went_changes n gone (λ y there. closed_sessions y.session) is

  went_over : (n : ℕ) (cause : Cause) (c : Course) → Went m k to c → Went m k to (ended n cause c)
  unfolding ended
  went_over n cause c is = went_ended n cause c (client_here c.table n) is

  went_turned : (n : ℕ) (turn : Turn) (c : Course) → Went m k to c → Went m k to (turned n turn c)
  went_turned n Going c is = is
  went_turned n Ignored c is = is
  went_turned n Named c is = is
  went_turned n Exchange c is = is
  went_turned n (Over cause) c is = went_over n cause c is

  went_moved_if : (n : ℕ) (from : Addr) (c : Course) (b : Bool) → Went m k to c → Went m k to (moved_if n from c b)
  went_moved_if n from c false is = is
  went_moved_if n from c true is = went_changes n (λ x. record x { address = from }) (λ y there. same_places y.session) is

  went_unless_lacking : (n : ℕ) (host : Ip4) (c : Course) (b : Bool) → Went m k to c → Went m k to (learned_unless_lacking n host c b)
  went_unless_lacking n host c true is = is
  went_unless_lacking n host c false is = is

  went_where : (lacks : Bool) (n : ℕ) (host : Ip4) (c : Course) (b : Bool) → Went m k to c → Went m k to (learned_where lacks n host c b)
  went_where lacks n host c true is = went_unless_lacking n host c (lacks && not (is_learned c.table.routes.learned host)) is
  went_where lacks n host c false is = is

  went_learned : (lacks : Bool) (n : ℕ) (host : Ip4) (c : Course) → Went m k to c → Went m k to (learned lacks n host c)
  unfolding learned
  went_learned lacks n host c is = went_where lacks n host c (is_host_of host (client_here c.table n)) is

  went_unless_full : (n : ℕ) (inner : List ℕ) (c : Course) (b : Bool) → Went m k to c → Went m k to (queued_unless_full n inner c b)
  went_unless_full n inner c true is = is
  went_unless_full n inner c false is = is

  went_queued : (n : ℕ) (inner : List ℕ) (c : Course) → Went m k to c → Went m k to (queued n inner c)
  unfolding queued
  went_queued n inner c is = went_unless_full n inner c (nat_le most_queued (length c.table.queue)) is

  went_sealed_as : (n : ℕ) (x : Client) (c : Course) (peer : Peer) (r : Result (List ℕ) Spent) → client_here c.table n ≡ Some x → KeepsPlaces x.session peer →
      Went m k to c → Went m k to (sealed_as n x c peer r)
  went_sealed_as n x c peer (Ok datagram) here keeps is =
      let f : Client → Client = with_sent c.table.moment peer (length datagram) in
      went_changes n f (at_place (λ y. KeepsPlaces y.session peer) c.table.clients n x (here_at c.table n x here).there keeps) is
  went_sealed_as n x c peer (Err spent) here keeps is = is

  went_sealed_for : (n : ℕ) (inner : List ℕ) (c : Course) (x : Option Client) → client_here c.table n ≡ x → Went m k to c → Went m k to (sealed_for n inner c x)
  went_sealed_for n inner c None here is = is
  went_sealed_for n inner c (Some x) here is =
      went_sealed_as n x c (packets.sealed_to inner x.session).peer (packets.sealed_to inner x.session).answer here (sealed_places inner x.session) is

  went_sealed : (n : ℕ) (inner : List ℕ) (c : Course) → Went m k to c → Went m k to (sealed_to n inner c)
  unfolding sealed_to
  went_sealed n inner c is = went_sealed_for n inner c (client_here c.table n) refl is

  went_passed : (lacks : Bool) (n : ℕ) (inner : List ℕ) (c : Course) (v : Verdict) → Went m k to c → Went m k to (passed lacks n inner c v)
  went_passed lacks n inner c NotIp is = is
  went_passed lacks n inner c TooLong is = is
  went_passed lacks n inner c Multicast is = is
  went_passed lacks n inner c (BadSource owner) is = is
  went_passed lacks n inner c (ToClient target) is = went_sealed target.0 inner (learned lacks n (source inner) c) (went_learned lacks n (source inner) c is)
  went_passed lacks n inner c ToDevice is = went_queued n inner (learned lacks n (source inner) c) (went_learned lacks n (source inner) c is)
  went_passed lacks n inner c NoRoute is = is

  went_carried_as : (lacks : Bool) (n : ℕ) (inner : List ℕ) (c : Course) (b : Bool) → Went m k to c → Went m k to (carried_as lacks n inner c b)
  went_carried_as lacks n inner c true is = is
  went_carried_as lacks n inner c false is =
      went_passed lacks n inner c (verdict c.table.routes.rows c.table.settings.net c.table.settings.between (Some (cid n)) inner) is

  went_carried : (lacks : Bool) (n : ℕ) (inner : List ℕ) (c : Course) → Went m k to c → Went m k to (carried lacks n inner c)
  unfolding carried
  went_carried lacks n inner c is = went_carried_as lacks n inner c (bytes_eq inner ping) is

-- ---- a control packet

answered_tells : (n k : ℕ) (to : Option Place) (c : Course) (answer : Result Turn Refused) → c.table.last_taken ≡ None →
    ((at : Place) → to ≡ Some at → IsPlaceOf c.table.clients n k at) → TellsPlace (control_answered n to c answer).table
answered_tells n k to c (Ok turn) none there =
    let d : Course = client_changed n (with_fresh c.table.moment) (record c { table = went_to to c.table }) in
    let is : WentTo n k to to c.table.clients = record { is_last = refl; is_there = there } in
    tells n k to (turned n turn d) (went_turned n turn d (went_changes n (with_fresh c.table.moment) (λ y there. same_places y.session) is))
answered_tells n k to c (Err (BadKey kid)) none there = tells_none (control_answered n to c (Err (BadKey kid))) none
answered_tells n k to c (Err (Replayed time id)) none there = tells_none (control_answered n to c (Err (Replayed time id))) none

control_for_tells : (r : ControlPacket) (n : ℕ) (c : Course) (x : Option Client) → client_here c.table n ≡ x → c.table.last_taken ≡ None → TellsPlace (control_for r n c x).table
control_for_tells r n c None here none = tells_none c none
control_for_tells r n c (Some x) here none =
    let i = incoming r c x in
    let o = control_came x.session i in
    answered_tells n (number_of x.session (live_with x.session.timers i.moment.0 x.session.sessions (kid_in i))) (control_place i x.session o.peer) (acted n x.address o c) o.answer none
    (λ at e. record {
      client = record x { session = o.peer };
      there = get_changed n (λ (y : Client). record y { session = o.peer }) c.table.clients x (here_at c.table n x here).there;
      is_place = e;
    })

to_client_tells : (r : ControlPacket) (n : ℕ) (c : Course) → c.table.last_taken ≡ None → TellsPlace (to_client r n c).table
unfolding to_client
to_client_tells r n c none = control_for_tells r n c (client_here c.table n) refl none

admitted_tells : (d : FromWire) (draw : Draw) (r : ControlPacket) (c : Course) → c.table.last_taken ≡ None → TellsPlace (admitted d draw r c).table
admitted_tells d draw r c none = to_client_tells r (length c.table.clients) (opened_for d.from c (session_begun c.table draw)) none

wrapped_tells : (d : FromWire) (draw : Draw) (r : ControlPacket) (c : Course) (b : Bool) → c.table.last_taken ≡ None →
    TellsPlace (if b then (let e : Course = record c { effects = c.effects ++ Report (notes.Replayed r.packet.time r.packet.id) ∷ [] } in e) else admitted d draw r c).table
wrapped_tells d draw r c true none = tells_none c none
wrapped_tells d draw r c false none = admitted_tells d draw r c none

unless_full_tells : (d : FromWire) (draw : Draw) (r : ControlPacket) (c : Course) (b : Bool) → c.table.last_taken ≡ None → TellsPlace (admitted_unless_full d draw r c b).table
unless_full_tells d draw r c true none = tells_none c none
unless_full_tells d draw r c false none = wrapped_tells d draw r c (r.packet.id == 0) none

nobody_tells : (d : FromWire) (draw : Draw) (r : ControlPacket) (c : Course) (b : Bool) → c.table.last_taken ≡ None → TellsPlace (of_nobody d draw r c b).table
nobody_tells d draw r c true none = unless_full_tells d draw r c (is_full c.table) none
nobody_tells d draw r c false none = tells_none c none

at_tells : (d : FromWire) (draw : Draw) (op : Opcode) (r : ControlPacket) (c : Course) (n : Option ℕ) → c.table.last_taken ≡ None → TellsPlace (control_at d draw op r c n).table
at_tells d draw op r c (Some n) none = to_client_tells r n c none
at_tells d draw op r c None none = nobody_tells d draw r c (begins_client op r) none

read_tells : (d : FromWire) (draw : Draw) (op : Opcode) (p : Packet) (c : Course) (form : Result ControlForm Malformed) → c.table.last_taken ≡ None →
    TellsPlace (control_read d draw op p c form).table
read_tells d draw op p c (Err e) none = tells_none c none
read_tells d draw op p c (Ok form) none = at_tells d draw op (record { packet = p; form = form }) c (by_session c.table d.from (sid_of p)) none

unwrapped_tells : (d : FromWire) (draw : Draw) (op : Opcode) (c : Course) (p : Option Packet) → c.table.last_taken ≡ None → TellsPlace (control_unwrapped d draw op c p).table
unwrapped_tells d draw op c None none = tells_none c none
unwrapped_tells d draw op c (Some p) none = read_tells d draw op p c (control_of op p.plain) none

arrived_tells : (d : FromWire) (draw : Draw) (op : Opcode) (c : Course) → c.table.last_taken ≡ None → TellsPlace (control_arrived d draw op c).table
unfolding control_arrived
arrived_tells d draw op c none = unwrapped_tells d draw op c (unwrapping (client_wraps c.table) d.bytes) none

-- ---- a data packet

-- the number of the key session to which it goes, if there is one
number_or_none : Option ℕ → ℕ
number_or_none None = 0
number_or_none (Some k) = k

abbrev number_in : ℕ → List ℕ → Peer → ℕ
number_in now bytes p = number_or_none (usable_with p.timers now p.sessions (packets.data_kid bytes))

-- the key session to which it went is the client's
found_at : (n : ℕ) (x : Client) (c : Course) → client_here c.table n ≡ Some x → (k : Option ℕ) (at : Place) → place_found k x.session ≡ Some at →
    IsPlaceOf c.table.clients n (number_or_none k) at
unfolding number_or_none
found_at n x c here None at e = absurd (none_some e)
found_at n x c here (Some k) at e = record { client = x; there = (here_at c.table n x here).there; is_place = e }

placed_at : (n : ℕ) (x : Client) (c : Course) (bytes : List ℕ) → client_here c.table n ≡ Some x → (at : Place) → data_place c.table.moment bytes x.session ≡ Some at →
    IsPlaceOf c.table.clients n (number_in c.table.moment bytes x.session) at
placed_at n x c bytes here at e = found_at n x c here (usable_with x.session.timers c.table.moment x.session.sessions (packets.data_kid bytes)) at e

refused_tells : (d : FromWire) (n : ℕ) (x : Client) (c : Course) (fault : SessionFault) → client_here c.table n ≡ Some x → c.table.last_taken ≡ None → TellsPlace (refused d n x c fault).table
refused_tells d n x c (faults.BadKey kid) here none = tells_none c none
refused_tells d n x c faults.NotSealed here none = tells_none c none
refused_tells d n x c (faults.Stale kind id greatest) here none =
    let to = data_place c.table.moment d.bytes x.session in
    let e : Course = record c { table = went_to to c.table } in
    tells n (number_in c.table.moment d.bytes x.session) to e (record { is_last = refl; is_there = placed_at n x c d.bytes here })

-- one that was accepted
accepted_went : (d : FromWire) (n : ℕ) (x : Client) (c : Course) (peer : Peer) (inner : List ℕ) → KeepsPlaces x.session peer → client_here c.table n ≡ Some x →
    Went n (number_in c.table.moment d.bytes x.session) (data_place c.table.moment d.bytes x.session) (carried d.lacks n inner (moved n d.from x (accepted d n x c peer)))
accepted_went d n x c peer inner keeps here =
    let e : Course = accepted d n x c peer in
    let is : Went n (number_in c.table.moment d.bytes x.session) (data_place c.table.moment d.bytes x.session) e =
    went_changes n (with_opened c.table.moment peer (length d.bytes)) (at_place (λ y. KeepsPlaces y.session peer) c.table.clients n x (here_at c.table n x here).there keeps)
    (record { is_last = refl; is_there = placed_at n x c d.bytes here }) in
    went_carried d.lacks n inner (moved n d.from x e)
    (went_moved_if n d.from e (not (is_address x.address d.from) && not (is_taken e.table n d.from x.session.remote)) is)

opened_tells : (d : FromWire) (n : ℕ) (x : Client) (c : Course) (peer : Peer) (r : Result (List ℕ) SessionFault) → KeepsPlaces x.session peer → client_here c.table n ≡ Some x →
    c.table.last_taken ≡ None → TellsPlace (opened_as d n x c peer r).table
opened_tells d n x c peer (Err fault) keeps here none = refused_tells d n x c fault here none
opened_tells d n x c peer (Ok inner) keeps here none =
    tells n (number_in c.table.moment d.bytes x.session) (data_place c.table.moment d.bytes x.session) (carried d.lacks n inner (moved n d.from x (accepted d n x c peer)))
    (accepted_went d n x c peer inner keeps here)

data_for_tells : (d : FromWire) (n : ℕ) (c : Course) (x : Option Client) → client_here c.table n ≡ x → c.table.last_taken ≡ None → TellsPlace (data_for d n c x).table
data_for_tells d n c None here none = tells_none c none
data_for_tells d n c (Some x) here none =
    let m : Moment = record { 0 = c.table.moment } in
    opened_tells d n x c (packets.data_came d.bytes m x.session).peer (packets.data_came d.bytes m x.session).answer (opened_places d.bytes m x.session) here none

data_at_tells : (d : FromWire) (peer : ℕ) (c : Course) (n : Option ℕ) → c.table.last_taken ≡ None → TellsPlace (data_at d peer c n).table
data_at_tells d peer c None none = tells_none c none
data_at_tells d peer c (Some n) none = data_for_tells d n c (client_here c.table n) refl none

data_tells : (d : FromWire) (f : DataForm) (c : Course) → c.table.last_taken ≡ None → TellsPlace (data_came d f c).table
unfolding data_came
data_tells d f c none = data_at_tells d f.peer c (by_peer_id c.table f.peer) none

datagram_tells : (d : FromWire) (draw : Draw) (c : Course) (p : Result PacketForm Malformed) → c.table.last_taken ≡ None → TellsPlace (datagram_as d draw c p).table
datagram_tells d draw c (Err e) none = tells_none c none
datagram_tells d draw c (Ok (Wrapped op kid sid)) none = arrived_tells d draw op c none
datagram_tells d draw c (Ok (Inner f)) none = data_tells d f c none

-- ---- other events

abbrev WentNowhere : Course → Type 0
WentNowhere c = c.table.last_taken ≡ None

nowhere_closed : IsClosed WentNowhere
nowhere_closed = record {
  quiet = λ actions c none is. is;
  other = λ counted into outof stopped c is. is;
  acts = λ n x o c here peer is. is;
  exchanges = λ n x ccd o c here known ex is. is;
  alters = λ n f c keeps is. is;
  ends = λ n cause x c here is. is;
  establishes = λ n conn x l c here ready is. is;
  admits = λ from draw c is. is;
}

nowhere_deals : DealsWith WentNowhere
nowhere_deals = record {
  seals = λ inner. seals_all nowhere_closed (λ to bytes c is. is) inner;
  learns = λ n host c owned is. is;
  queues = λ inner c few is. is;
  dequeues = λ packet rest c same is. is;
}

came_tells : (lacks : Bool) (draw : Draw) (kind : Kind) (c : Course) → c.table.last_taken ≡ None → TellsPlace (came lacks draw kind c).table
unfolding came
came_tells lacks draw (Datagram from bytes) c none = datagram_tells (record { from = from; bytes = bytes; lacks = lacks }) draw c (packet_of bytes) none
came_tells lacks draw kind c none = tells_none (came lacks draw kind c) (came_apart nowhere_closed nowhere_deals lacks draw kind c tt none)

-- ---- steps and runs

pub step_tells : (lacks : Bool) (t : Table) (event : Event) → TellsPlace t → TellsPlace (step lacks t event).table
step_tells lacks t event is =
    by_over (λ c. TellsPlace c.table) lacks t event is (λ goes. came_tells lacks event.draw event.kind (course_begun t event) refl)

pub others_tell : (lacks : Bool) (t : Table) (event : Event) → is_over t ≡ false → IsApart event.kind → (step lacks t event).table.last_taken ≡ None
others_tell lacks t event goes apart =
    subst (λ (c : Course). c.table.last_taken ≡ None) (sym (step_goes lacks t event goes))
    (came_apart nowhere_closed nowhere_deals lacks event.draw event.kind (course_begun t event) apart refl)

lacking_tells : (t : Table) (event : Event) (lack : Lack) → TellsPlace t → TellsPlace (after_lacking t event lack)
lacking_tells t event LacksNothing is = step_tells false t event is
lacking_tells t event LacksAll is = is
lacking_tells t event LacksHost is = step_tells true t event is

pub run_tells : (entries : List Entry) (t : Table) → TellsPlace t → TellsPlace (after_all t entries)
run_tells [] t is = is
run_tells (entry ∷ entries) t is = run_tells entries (after t entry) (lacking_tells t entry.0 entry.1 is)

-- ---- a data packet that a step accepts

-- a key session that is there has a place
place_there : (p : Peer) (k : ℕ) (s : Session) → slice_get p.sessions k ≡ Some s → place_numbered k p ≡ Some (place_of p k s)
unfolding place_numbered
place_there p k s there = ap (place_at p (Some k)) there

pub accepted_tells : (lacks : Bool) (t : Table) (event : Event) (n k id : ℕ) (inner : List ℕ) → IsSound t → IsWellKept t → Accepts t event n k id inner →
    WentToSession (step lacks t event).table n k
unfolding number_or_none
accepted_tells lacks t event n k id inner sound kept accepts =
    let a = accepts.accepted in
    let x = a.client in
    let m : Moment = record { 0 = moment_of t event } in
    let c = course_begun t event in
    let d : FromWire = record { from = accepts.from; bytes = accepts.datagram; lacks = lacks } in
    let k_is = found_from t (moment_of t event) d.bytes n k id inner sound kept a in
    let at = place_of x.session k a.session in
    let went = accepted_went d n x c (packets.data_came d.bytes m x.session).peer inner (opened_places d.bytes m x.session) (here_begun t event n ∙ a.client_here) in
    let found : data_place (moment_of t event) d.bytes x.session ≡ Some at
    = ap (λ (j : Option ℕ). place_found j x.session) k_is ∙ place_there x.session k a.session a.session_there in
    subst (λ (e : Course). WentToSession e.table n k) (sym (accepted_step t event accepts.from d.bytes lacks sound kept n k id inner accepts.is_taken accepts.comes a))
    (record {
      at = at;
      is_last = went.is_last ∙ found;
      is_theirs = subst (λ (j : ℕ). IsPlaceOf (carried lacks n inner (moved n d.from x (accepted d n x c (packets.data_came d.bytes m x.session).peer))).table.clients n j at)
          (ap number_or_none k_is) (went.is_there at found);
    })
