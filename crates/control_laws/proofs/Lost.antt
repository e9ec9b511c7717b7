-- A control packet that meets all tests is taken in its step.
use Rattle.std.proofs.Common.{◌≡◌, ℕ, zero, suc, ◌==◌, Bool, true, false, List, [], ◌∷◌, ◌++◌, length, Option, Some, None, refl, sym, ap, ◌∙◌, subst, arith, Result, Ok, Err, if◌then◌else◌}
use Rattle.std.specs.Prelude.{◌&&◌, slice_get}
use Rattle.std.specs.List.{find}
use Rattle.std.proofs.lemmas.Bool.{and_parts, eq-eqb, false≢true}
use Rattle.vpn_base.specs.declared.address.Addr.{Addr}
use Rattle.vpn_base.specs.declared.names.Cause.{Cause}
use Rattle.vpn_base.specs.declared.names.Draw.{Draw}
use Rattle.vpn_base.specs.declared.names.Freshness.TheVariants.{Fresh, Zero}
use Rattle.vpn_base.specs.declared.names.Place.{Place}
use Rattle.vpn_base.specs.declared.names.Sid.{Sid}
use Rattle.vpn_links.specs.declared.events.Event.{Event}
use Rattle.vpn_links.specs.declared.events.Kind.{Kind}
use Rattle.vpn_links.specs.declared.events.Kind.TheVariants.{Datagram}
use Rattle.vpn_links.specs.declared.notes.Note.TheVariants as notes
use Rattle.opcode_codec.specs.ControlText.{control_of}
use Rattle.opcode_codec.specs.declared.opcodes.Opcode.{Opcode}
use Rattle.opcode_codec.specs.Packet.{Wrapped, packet_of}
use Rattle.tls_crypt.specs.Unwrapping.{unwrapping}
use Rattle.packet_ids.specs.LongFreshness.{long_begun, long_freshness}
use Rattle.vpn_base.specs.declared.names.Moment.{Moment}
use Rattle.reliable_recv.specs.Receiving.{Arrival, Receiving, begun}
use Rattle.control_link.specs.Calls as link
use Rattle.control_link.specs.Reading.{IsReadUp, taken_with}
use Rattle.peer_table.specs.declared.outcomes.Refused.{Refused}
use Rattle.peer_table.specs.declared.outcomes.Refused.TheVariants.{Replayed, BadKey}
use Rattle.peer_table.specs.declared.outcomes.Turn.{Turn}
use Rattle.peer_table.specs.declared.outcomes.Turn.TheVariants.{Going, Ignored, Named, Exchange, Over}
use Rattle.peer_table.specs.ControlPackets.{begun_by, control_came, judged, next_session, placed, sender, sid_of, taken_as, taken_by, with_next}
use Rattle.peer_table.specs.KeySessions.{Session, kid_of, live_with, usable}
use Rattle.peer_table.specs.Peer.{Outcome, Peer, began}
use Rattle.peer_table.specs.Places.{changed_at, first_place}
use Rattle.server_table.specs.Table.{Client, Table}
use Rattle.server_table.specs.Lookups.{by_session, client_here, has_session, if_here, is_address, is_full, is_sid}
use Rattle.server_table.specs.Courses.{Course, acted, reported}
use Rattle.server_table.specs.DataDatagrams.{FromWire}
use Rattle.server_table.specs.Endings.{ended, ended_as, gone, turned}
use Rattle.server_table.specs.ControlDatagrams.{ControlPacket, admitted, admitted_unless_full, begins_client, client_begun, client_wraps, control_acted, control_answered, control_arrived, control_at, control_for, control_place, control_read, control_unwrapped, incoming, of_nobody, opened_for, session_begun, to_client, with_fresh}
use Rattle.server_table.specs.Sound.{AreOrderly, AtMostOne, IsSound}
use Rattle.server_table.specs.Step.{came, course_begun, datagram_as, is_over, step, step_if}
use Rattle.control_laws.specs.Sessions.{session_in, session_of, taken_in}
use Rattle.control_laws.specs.Tests.{GoesTo, IsControlPacket, Known, MeetsAll, New, carried_kid, wraps_of_clients}
use Rattle.control_laws.specs.internal.LinkReads.{LinkReads}
use Rattle.control_laws.proofs.Actions.{some_same}
use Rattle.control_laws.proofs.Calls.{closed_lines}
use Rattle.control_laws.proofs.Lines.{Line, client_lines, get_changed, get_last, get_past, line_at, line_of, lines_in, lines_of, map_changed}
use Rattle.control_laws.proofs.Keeps.{line_there, with_session}
use Rattle.control_laws.proofs.KeptControl.{new_client, new_kid}
use Rattle.control_laws.proofs.KeptTaking.{taken_put, took}
use Rattle.control_laws.proofs.Placed.{FoundLive, FoundNext, IsFound, first_is, none_first, none_passes, placed_found}

-- ---- what follows a packet that was taken leaves all lines

ended_as_lines : (n : ℕ) (cause : Cause) (c : Course) (x : Option Client) → lines_of (ended_as n cause c x).table.clients ≡ lines_of c.table.clients
ended_as_lines n cause c None = refl
ended_as_lines n cause c (Some x) = map_changed client_lines n gone c.table.clients (λ y there. closed_lines y.session)

ended_lines : (n : ℕ) (cause : Cause) (c : Course) → lines_of (ended n cause c).table.clients ≡ lines_of c.table.clients
unfolding ended
ended_lines n cause c = ended_as_lines n cause c (client_here c.table n)

turned_lines : (n : ℕ) (turn : Turn) (c : Course) → lines_of (turned n turn c).table.clients ≡ lines_of c.table.clients
turned_lines n Going c = refl
turned_lines n Ignored c = refl
turned_lines n Named c = refl
turned_lines n Exchange c = refl
turned_lines n (Over cause) c = ended_lines n cause c

fresh_lines : (n now : ℕ) (clients : List Client) → lines_of (changed_at n (with_fresh now) clients) ≡ lines_of clients
fresh_lines n now clients = map_changed client_lines n (with_fresh now) clients (λ y there. refl)

answered_lines : (n : ℕ) (to : Option Place) (c : Course) (answer : Result Turn Refused) → lines_of (control_answered n to c answer).table.clients ≡ lines_of c.table.clients
answered_lines n to c (Ok turn) = turned_lines n turn _ ∙ fresh_lines n c.table.moment c.table.clients
answered_lines n to c (Err (BadKey kid)) = fresh_lines n c.table.moment c.table.clients
answered_lines n to c (Err (Replayed time id)) = refl

-- ---- the client of a number takes a packet

-- a line took what a packet carries, behind what was taken before
pub record TookLine (lines : List (List Line)) (n k : ℕ) (taken : List Arrival) (r : ControlPacket) : Type 0 where
  pub line : Line
  pub there : line_at lines n k ≡ Some line
  pub took_it : line.receiving.taken ≡ taken_with taken r.form.id r.form.payload

-- in the same lines
moved_line : (lines later : List (List Line)) (n k : ℕ) (taken : List Arrival) (r : ControlPacket) → later ≡ lines → TookLine lines n k taken r → TookLine later n k taken r
moved_line lines later n k taken r same t = subst (λ all. TookLine all n k taken r) (sym same) t

acted_line : (clients : List Client) (n k : ℕ) (x : Client) (p : Peer) (l : Line) → slice_get clients n ≡ Some x → slice_get (lines_in p) k ≡ Some l →
    line_at (lines_of (changed_at n (with_session p) clients)) n k ≡ Some l
acted_line clients n k x p l there at =
    line_there (changed_at n (with_session p) clients) n k (with_session p x) (Some l) (get_changed n (with_session p) clients x there) at

-- the session of a peer took a packet
record TookIn (q : Peer) (k : ℕ) (taken : List Arrival) (r : ControlPacket) : Type 0 where
  line : Line
  there : slice_get (lines_in q) k ≡ Some line
  took_it : line.receiving.taken ≡ taken_with taken r.form.id r.form.payload

module _ (reads : LinkReads) (up : IsReadUp begun) where
  -- the live session
  live_took : (r : ControlPacket) (c : Course) (x : Client) (k : ℕ) (s : Session) → slice_get x.session.sessions k ≡ Some s → IsReadUp s.link.receiving →
      TookIn (taken_as x.session (incoming r c x) k (link.received s.link x.session.envelope r.form (sender (incoming r c x)) c.table.moment)).peer k s.link.receiving.taken r
  live_took r c x k s there waits =
      let i = incoming r c x in
      let lo = link.received s.link x.session.envelope r.form (sender i) c.table.moment in
      record {
        line = line_of (took lo s);
        there = (taken_put x.session i k s lo there).there;
        took_it = reads.taken s.link x.session.envelope r.form (sender i) c.table.moment waits;
      }

  -- the next session
  next_took : (r : ControlPacket) (c : Course) (x : Client) → TookIn (begun_by x.session (incoming r c x) true).peer (length x.session.sessions) [] r
  next_took r c x =
      let i = incoming r c x in
      let q = with_next i.next_conn c.table.moment x.session in
      let s = next_session i.next_conn c.table.moment x.session in
      let lo = link.received s.link q.envelope r.form (sender i) c.table.moment in
      record {
        line = line_of (took lo s);
        there = (taken_put q i (length x.session.sessions) s lo (get_last x.session.sessions s)).there;
        took_it = reads.taken s.link q.envelope r.form (sender i) c.table.moment up;
      }

  none_past : (all : List Session) (k : ℕ) → k ≡ length all → slice_get all k ≡ None
  none_past [] k e = ap (slice_get []) e
  none_past (s ∷ all) zero e = absurd (omega (arith, e))
  none_past (s ∷ all) (suc k) e = none_past all k (omega (arith, e))

  placed_took : (r : ControlPacket) (c : Course) (x : Client) (k : ℕ) → long_freshness x.session.envelope.accepted r.packet.time r.packet.id (record { 0 = c.table.moment }) ≡ Fresh →
      IsFound c.table x r k → ((s : Session) → slice_get x.session.sessions k ≡ Some s → IsReadUp s.link.receiving) →
      TookIn (control_came x.session (incoming r c x)).peer k (taken_in (slice_get x.session.sessions k)) r
  unfolding control_came
  placed_took r c x k fresh (FoundLive s there live) waits =
      let i = incoming r c x in
      let came : control_came x.session i ≡ taken_as x.session i k (link.received s.link x.session.envelope r.form (sender i) c.table.moment) =
      ap (judged x.session i) fresh ∙ ap (placed x.session i) live ∙ ap (taken_by x.session i k) there in
      subst (λ (o : Outcome (Result Turn Refused)). TookIn o.peer k (taken_in (slice_get x.session.sessions k)) r) (sym came)
      (subst (λ o. TookIn (taken_as x.session i k (link.received s.link x.session.envelope r.form (sender i) c.table.moment)).peer k (taken_in o) r) (sym there)
      (live_took r c x k s there (waits s there)))
  placed_took r c x k fresh (FoundNext none begins next) waits =
      let i = incoming r c x in
      let came : control_came x.session i ≡ begun_by x.session i true =
      ap (judged x.session i) fresh ∙ ap (placed x.session i) none ∙ ap (begun_by x.session i) begins in
      subst (λ (o : Outcome (Result Turn Refused)). TookIn o.peer k (taken_in (slice_get x.session.sessions k)) r) (sym came)
      (subst (λ o. TookIn (begun_by x.session i true).peer k (taken_in o) r) (sym (none_past x.session.sessions k next))
      (subst (λ j. TookIn (begun_by x.session i true).peer j [] r) (sym next) (next_took r c x)))

  pub client_took : (r : ControlPacket) (n k : ℕ) (c : Course) (x : Client) → slice_get c.table.clients n ≡ Some x → client_here c.table n ≡ Some x →
      long_freshness x.session.envelope.accepted r.packet.time r.packet.id (record { 0 = c.table.moment }) ≡ Fresh → IsFound c.table x r k →
      ((s : Session) → slice_get x.session.sessions k ≡ Some s → IsReadUp s.link.receiving) →
      TookLine (lines_of (to_client r n c).table.clients) n k (taken_in (slice_get x.session.sessions k)) r
  unfolding to_client
  client_took r n k c x there here fresh place waits =
      let o = control_came x.session (incoming r c x) in
      let t = placed_took r c x k fresh place waits in
      subst (λ y. TookLine (lines_of (control_for r n c y).table.clients) n k (taken_in (slice_get x.session.sessions k)) r) (sym here)
      (moved_line (lines_of (acted n x.address o c).table.clients) (lines_of (control_acted n x (incoming r c x) c o).table.clients) n k (taken_in (slice_get x.session.sessions k)) r
      (answered_lines n (control_place (incoming r c x) x.session o.peer) (acted n x.address o c) o.answer)
      (record { line = t.line; there = acted_line c.table.clients n k x o.peer t.line there t.there; took_it = t.took_it }))

-- ---- who is found

found_first : (passes : Client → Bool) (clients : List Client) (n : ℕ) (x : Client) (o : Option ℕ) → first_place passes clients ≡ o → AtMostOne passes clients →
    slice_get clients n ≡ Some x → passes x ≡ true → o ≡ Some n
found_first passes clients n x None first one there is = absurd (false≢true (sym (none_passes passes clients first n x there) ∙ is))
found_first passes clients n x (Some m) first one there is =
    let f = first_is passes clients m first in ap (λ i. Some i) (one m n f.item x f.there there f.passed is)

pub found_by : (t : Table) (from : Addr) (sid : Sid) (n : ℕ) (x : Client) → AtMostOne (has_session from sid) t.clients → slice_get t.clients n ≡ Some x → has_session from sid x ≡ true →
    by_session t from sid ≡ Some n
unfolding by_session
found_by t from sid n x one there is = found_first (has_session from sid) t.clients n x (first_place (has_session from sid) t.clients) refl one there is

pub nobody_by : (t : Table) (from : Addr) (sid : Sid) → ((m : ℕ) (y : Client) → slice_get t.clients m ≡ Some y → has_session from sid y ≡ false) → by_session t from sid ≡ None
unfolding by_session
nobody_by t from sid fails = none_first (has_session from sid) t.clients (first_place (has_session from sid) t.clients) refl fails

if_here_some : (x : Client) (b : Bool) → x.is_here ≡ b → b ≡ true → (if b then Some x else None) ≡ Some x
if_here_some x true is e = refl
if_here_some x false is e = absurd (false≢true e)

pub is_here_at : (t : Table) (n : ℕ) (x : Client) → slice_get t.clients n ≡ Some x → x.is_here ≡ true → client_here t n ≡ Some x
unfolding client_here
is_here_at t n x there here = ap if_here there ∙ if_here_some x x.is_here refl here

-- ---- the client that is admitted takes it

first_fresh : (width seconds time id : ℕ) (now : Moment) → (id == 0) ≡ false → long_freshness (long_begun width seconds) time id now ≡ Fresh
unfolding long_freshness
first_fresh width seconds time id now used = go (id == 0) used
  where
    go : (b : Bool) → b ≡ false → (if b then Zero else Fresh) ≡ Fresh
    go true e = absurd (false≢true (sym e))
    go false e = refl

found_head : (passes : ℕ → Bool) (x : ℕ) (xs : List ℕ) → passes x ≡ true → find passes (x ∷ xs) ≡ Some x
found_head passes x xs is = go (passes x) is
  where
    go : (b : Bool) → b ≡ true → (if b then Some x else find passes xs) ≡ Some x
    go true e = refl
    go false e = absurd (false≢true e)

-- its one session is live with key id 0
new_live : (from : Addr) (c : Course) (draw : Draw) (moment kid : ℕ) → kid ≡ 0 →
    live_with (new_client from c draw).session.timers moment (new_client from c draw).session.sessions kid ≡ Some 0
unfolding began live_with
new_live from c draw moment kid is =
    found_head (λ n. kid_of n == kid) 0 (usable (new_client from c draw).session.timers moment (new_client from c draw).session.sessions) (eq-eqb 0 kid (sym is))

new_fresh : (from : Addr) (c : Course) (draw : Draw) (time id : ℕ) (now : Moment) → (id == 0) ≡ false →
    long_freshness (new_client from c draw).session.envelope.accepted time id now ≡ Fresh
unfolding began
new_fresh from c draw time id now used = first_fresh c.table.settings.timers.win c.table.settings.timers.win_secs time id now used

-- the session of a new client
record NewSession (x : Client) : Type 0 where
  session : Session
  there : slice_get x.session.sessions 0 ≡ Some session
  side : session.link.receiving ≡ begun

new_session : (from : Addr) (c : Course) (draw : Draw) → NewSession (new_client from c draw)
unfolding began
new_session from c draw = record { session = _; there = refl; side = refl }

pub new_took : LinkReads → IsReadUp begun → (d : FromWire) (draw : Draw) (r : ControlPacket) (c : Course) → (r.packet.id == 0) ≡ false → carried_kid r ≡ 0 →
    TookLine (lines_of (admitted d draw r c).table.clients) (length c.table.clients) 0 [] r
new_took reads up d draw r c used kid =
    let x = new_client d.from c draw in
    let n = length c.table.clients in
    let e = opened_for d.from c (session_begun c.table draw) in
    let y = client_begun c.table d.from (session_begun c.table draw).peer in
    let s = new_session d.from c draw in
    let there : slice_get e.table.clients n ≡ Some x =
    get_changed n (with_session (session_begun c.table draw).peer) (c.table.clients ++ y ∷ []) y (get_last c.table.clients y) in
    let taken : taken_in (slice_get x.session.sessions 0) ≡ [] =
    ap taken_in s.there ∙ ap (λ (side : Receiving). side.taken) s.side in
    subst (λ all. TookLine (lines_of (admitted d draw r c).table.clients) n 0 all r) taken
    (client_took reads up r n 0 e x there (is_here_at e.table n x there refl) (new_fresh d.from c draw r.packet.time r.packet.id (record { 0 = e.table.moment }) used)
    (FoundLive s.session s.there (new_live d.from c draw e.table.moment (carried_kid r) kid))
    (λ z at. subst (λ (z : Session). IsReadUp z.link.receiving) (some_same (sym s.there ∙ at)) (subst IsReadUp (sym s.side) up)))

-- ---- the step

-- a control packet that was read comes to the client that it is of, or to nobody
reaches_read : (d : FromWire) (draw : Draw) (op : Opcode) (kid : ℕ) (sid : Sid) (r : ControlPacket) (c : Course) → packet_of d.bytes ≡ Ok (Wrapped op kid sid) →
    unwrapping (client_wraps c.table) d.bytes ≡ Some r.packet → control_of op r.packet.plain ≡ Ok r.form →
    datagram_as d draw c (packet_of d.bytes) ≡ control_at d draw op r c (by_session c.table d.from (sid_of r.packet))
unfolding control_arrived
reaches_read d draw op kid sid r c outer unwraps form =
    ap (datagram_as d draw c) outer ∙ ap (control_unwrapped d draw op c) unwraps ∙ ap (control_read d draw op r.packet c) form

came_datagram : (lacks : Bool) (draw : Draw) (from : Addr) (bytes : List ℕ) (kind : Kind) (c : Course) → kind ≡ Datagram from bytes →
    came lacks draw kind c ≡ datagram_as (record { from = from; bytes = bytes; lacks = lacks }) draw c (packet_of bytes)
unfolding came
came_datagram lacks draw from bytes kind c is = ap (λ kind. came lacks draw kind c) is

reaches : (lacks : Bool) (key : List ℕ) (t : Table) (event : Event) (from : Addr) (op : Opcode) (r : ControlPacket) → t.key ≡ key → is_over t ≡ false →
    (p : IsControlPacket key event.kind from op r) →
    step lacks t event ≡ control_at (record { from = from; bytes = p.bytes; lacks = lacks }) event.draw op r (course_begun t event) (by_session (course_begun t event).table from (sid_of r.packet))
unfolding step
reaches lacks key t event from op r same goes p =
    let d : FromWire = record { from = from; bytes = p.bytes; lacks = lacks } in
    let c = course_begun t event in
    ap (step_if lacks t event) goes
    ∙ came_datagram lacks event.draw from p.bytes event.kind c p.is_datagram
    ∙ reaches_read d event.draw op p.outer_kid p.outer_sid r c p.is_control (subst (λ key. unwrapping (wraps_of_clients key) p.bytes ≡ Some r.packet) (sym same) p.unwraps) p.reads

-- a packet that admits a client reaches its admission
reaches_admitted : (d : FromWire) (draw : Draw) (op : Opcode) (r : ControlPacket) (c : Course) → by_session c.table d.from (sid_of r.packet) ≡ None → begins_client op r ≡ true →
    is_full c.table ≡ false → (r.packet.id == 0) ≡ false → control_at d draw op r c (by_session c.table d.from (sid_of r.packet)) ≡ admitted d draw r c
reaches_admitted d draw op r c nobody begins room used =
    ap (control_at d draw op r c) nobody ∙ ap (of_nobody d draw r c) begins ∙ ap (admitted_unless_full d draw r c) room ∙ go (r.packet.id == 0) used
  where
    go : (b : Bool) → b ≡ false → (if b then reported (notes.Replayed r.packet.time r.packet.id) c else admitted d draw r c) ≡ admitted d draw r c
    go true e = absurd (false≢true (sym e))
    go false e = refl

session_there : (t : Table) (n k : ℕ) (x : Client) → slice_get t.clients n ≡ Some x → session_of t n k ≡ slice_get x.session.sessions k
unfolding session_of
session_there t n k x there = ap (session_in k) there

session_past : (t : Table) (n k : ℕ) → n ≡ length t.clients → session_of t n k ≡ None
unfolding session_of
session_past t n k is = ap (session_in k) (ap (slice_get t.clients) is ∙ get_past t.clients)

is_here_of : (from : Addr) (sid : Sid) (x : Client) → has_session from sid x ≡ true → x.is_here ≡ true
is_here_of from sid x is =
    (and_parts x.is_here (is_address x.address from) (and_parts (x.is_here && is_address x.address from) (is_sid sid x.session.remote) is).0).0

module _ (reads : LinkReads) (up : IsReadUp begun) where
  goes_took : (lacks : Bool) (t : Table) (event : Event) (from : Addr) (op : Opcode) (r : ControlPacket) (n k : ℕ) (bytes : List ℕ) →
      ((s : Session) → session_of t n k ≡ Some s → IsReadUp s.link.receiving) → ((from : Addr) (sid : Sid) → AtMostOne (has_session from sid) t.clients) → AreOrderly t.clients →
      GoesTo (course_begun t event).table from op r n k →
      TookLine (lines_of (control_at (record { from = from; bytes = bytes; lacks = lacks }) event.draw op r (course_begun t event)
      (by_session (course_begun t event).table from (sid_of r.packet))).table.clients) n k (taken_in (session_of t n k)) r
  goes_took lacks t event from op r n k bytes waits one orderly (Known of) =
      let c = course_begun t event in
      let d : FromWire = record { from = from; bytes = bytes; lacks = lacks } in
      let x = of.client in
      let same = session_there t n k x of.there in
      subst (λ found. TookLine (lines_of (control_at d event.draw op r c found).table.clients) n k (taken_in (session_of t n k)) r)
      (sym (found_by c.table from (sid_of r.packet) n x (one from (sid_of r.packet)) of.there of.sends))
      (subst (λ o. TookLine (lines_of (to_client r n c).table.clients) n k (taken_in o) r) (sym same)
      (client_took reads up r n k c x of.there (is_here_at c.table n x of.there (is_here_of from (sid_of r.packet) x of.sends)) of.fresh (placed_found c.table x r k (orderly n x of.there) of.placed)
      (λ s at. waits s (same ∙ at))))
  goes_took lacks t event from op r n k bytes waits one orderly (New admits) =
      let c = course_begun t event in
      let d : FromWire = record { from = from; bytes = bytes; lacks = lacks } in
      subst (λ (e : Course). TookLine (lines_of e.table.clients) n k (taken_in (session_of t n k)) r)
      (sym (reaches_admitted d event.draw op r c (nobody_by c.table from (sid_of r.packet) admits.nobody) admits.begins admits.has_room admits.used))
      (subst (λ o. TookLine (lines_of (admitted d event.draw r c).table.clients) n k (taken_in o) r) (sym (session_past t n k admits.next))
      (subst (λ m. TookLine (lines_of (admitted d event.draw r c).table.clients) m k [] r) (sym admits.next)
      (subst (λ j. TookLine (lines_of (admitted d event.draw r c).table.clients) (length c.table.clients) j [] r) (sym admits.first)
      (new_took reads up d event.draw r c admits.used (new_kid op r admits.begins)))))

  pub step_took : (lacks : Bool) (key : List ℕ) (t : Table) (event : Event) (r : ControlPacket) (n k : ℕ) → t.key ≡ key → IsSound t →
      ((s : Session) → session_of t n k ≡ Some s → IsReadUp s.link.receiving) → MeetsAll key t event r n k →
      TookLine (lines_of (step lacks t event).table.clients) n k (taken_in (session_of t n k)) r
  step_took lacks key t event r n k same sound waits meets =
      subst (λ (c : Course). TookLine (lines_of c.table.clients) n k (taken_in (session_of t n k)) r)
      (sym (reaches lacks key t event meets.from meets.op r same meets.goes_on meets.packet))
      (goes_took lacks t event meets.from meets.op r n k meets.packet.bytes waits sound.sessions sound.orderly meets.goes)
