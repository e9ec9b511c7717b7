-- A control packet that comes, by the client that it is of, or that it admits.
use Rattle.std.proofs.Common.{◌≡◌, ℕ, zero, suc, ◌==◌, Bool, true, false, List, [], ◌∷◌, ◌++◌, length, slice_get, Option, Some, None, refl, sym, ap, ◌∙◌, subst, Result, Ok, Err, if◌then◌else◌}
use Rattle.std.specs.Prelude.{◌&&◌}
use Rattle.std.proofs.lemmas.Bool.{and_parts, eqb-true, false≢true}
use Rattle.vpn_base.specs.declared.address.Addr.{Addr}
use Rattle.vpn_base.specs.declared.names.Draw.{Draw}
use Rattle.vpn_base.specs.declared.names.Malformed.{Malformed}
use Rattle.vpn_base.specs.declared.names.Role.TheVariants.{Server}
use Rattle.vpn_base.specs.declared.names.Sid.{Sid}
use Rattle.vpn_links.specs.Actions.{Report}
use Rattle.vpn_links.specs.declared.events.Kind.TheVariants.{Datagram}
use Rattle.vpn_links.specs.declared.notes.Note.TheVariants as notes
use Rattle.opcode_codec.specs.ControlText.{ControlForm, control_of}
use Rattle.opcode_codec.specs.declared.opcodes.Opcode.{Opcode}
use Rattle.opcode_codec.specs.Packet.{Wrapped, packet_of}
use Rattle.tls_crypt.specs.Packets.{Packet}
use Rattle.tls_crypt.specs.Unwrapping.{unwrapping}
use Rattle.reliable_recv.specs.Receiving.{Arrival, begun}
use Rattle.control_link.specs.Reading.{IsReadUp}
use Rattle.peer_table.specs.ControlPackets.{is_first, newest_is_finished, sid_of}
use Rattle.peer_table.specs.KeySessions.{kid_of}
use Rattle.peer_table.specs.Peer.{began}
use Rattle.server_table.specs.Table.{Client, Table}
use Rattle.server_table.specs.Lookups.{by_session, client_here, has_session, is_full}
use Rattle.server_table.specs.Courses.{Course, reported}
use Rattle.server_table.specs.DataDatagrams.{FromWire}
use Rattle.server_table.specs.ControlDatagrams.{ControlPacket, admitted, admitted_unless_full, begins_client, client_begun, client_wraps, control_arrived, control_at, control_read, control_unwrapped, first_of, is_client_reset, of_nobody, opened_for, session_begun}
use Rattle.control_laws.specs.Tests.{GoesTo, IsControlPacket, Known, New, carried_kid, wraps_of_clients}
use Rattle.control_laws.specs.internal.LinkReads.{LinkReads}
use Rattle.control_laws.proofs.Actions.{none_some, some_same}
use Rattle.control_laws.proofs.Lines.{LinePut, client_lines, get_changed, get_last, get_past, joined_put, line_in, lines_of, map_append, map_changed}
use Rattle.control_laws.proofs.Kept.{Before, Kept, begun_line}
use Rattle.control_laws.proofs.Begins.{begins_kept}
use Rattle.server_table.proofs.Keeps.{at_place, here_at}
use Rattle.control_laws.proofs.Keeps.{did_kept, with_session}
use Rattle.control_laws.proofs.KeptTaking.{to_client_kept}
use Rattle.control_laws.proofs.Placed.{FoundLive, FoundNext, IsFound, begins_parts, first_is, found_placed, none_passes, placed_kid}

-- ---- the client that is admitted

abbrev pub new_client : Addr → Course → Draw → Client
new_client from c draw = with_session (session_begun c.table draw).peer (client_begun c.table from (session_begun c.table draw).peer)

-- it has one session
new_first : (from : Addr) (c : Course) (draw : Draw) (t : Table) (r : ControlPacket) (k : ℕ) → IsFound t (new_client from c draw) r k → k ≡ 0
unfolding began newest_is_finished
new_first from c draw t r zero placed = refl
new_first from c draw t r (suc k) (FoundLive s there live) = absurd (none_some there)
new_first from c draw t r (suc k) (FoundNext none begins next) = absurd (false≢true (begins_parts (new_client from c draw) r begins).finished)

new_is : (from : Addr) (c : Course) (draw : Draw) (x : Client) → client_here (opened_for from c (session_begun c.table draw)).table (length c.table.clients) ≡ Some x →
    new_client from c draw ≡ x
new_is from c draw x here =
    let o = session_begun c.table draw in
    let y = client_begun c.table from o.peer in
    some_same (sym (get_changed (length c.table.clients) (with_session o.peer) (c.table.clients ++ y ∷ []) y (get_last c.table.clients y))
    ∙ (here_at (opened_for from c o).table (length c.table.clients) x here).there)

-- the lines once it stands behind all others
new_lines : (from : Addr) (c : Course) (draw : Draw) → lines_of (opened_for from c (session_begun c.table draw)).table.clients
    ≡ lines_of c.table.clients ++ (begun_line c.table.connections 0 ∷ []) ∷ []
unfolding began
new_lines from c draw =
    let o = session_begun c.table draw in
    let y = client_begun c.table from o.peer in
    map_changed client_lines (length c.table.clients) (with_session o.peer) (c.table.clients ++ y ∷ [])
    (at_place (λ z. client_lines (with_session o.peer z) ≡ client_lines z) (c.table.clients ++ y ∷ []) (length c.table.clients) y (get_last c.table.clients y) refl)
    ∙ map_append client_lines c.table.clients (y ∷ [])

-- ---- what a packet of a known client, or one that admits, tells

-- where a packet goes to a session, what it carries is brought there
abbrev pub GoesThere : (ℕ → ℕ → Arrival → Type 0) → Table → Addr → Opcode → ControlPacket → Type 0
GoesThere brought t from op r = (n k : ℕ) → GoesTo t from op r n k → (id : ℕ) → r.form.id ≡ Some id → brought n k (id, r.form.payload)

-- the same for each control packet that a datagram is
abbrev pub Told : (ℕ → ℕ → Arrival → Type 0) → List ℕ → Table → FromWire → Type 0
Told brought static t d = (op : Opcode) (r : ControlPacket) → IsControlPacket static (Datagram d.from d.bytes) d.from op r → GoesThere brought t d.from op r

-- who is found by an address and a session id has them
found_sends : (t : Table) (from : Addr) (sid : Sid) (n : ℕ) (x : Client) → by_session t from sid ≡ Some n → client_here t n ≡ Some x → has_session from sid x ≡ true
unfolding by_session
found_sends t from sid n x found here =
    let f = first_is (has_session from sid) t.clients n found in
    let same : f.item ≡ x = some_same (sym f.there ∙ (here_at t n x here).there) in
    subst (λ y. has_session from sid y ≡ true) same f.passed

-- where nobody is found nobody has them
nobody_passes : (t : Table) (from : Addr) (sid : Sid) → by_session t from sid ≡ None → (m : ℕ) (y : Client) → slice_get t.clients m ≡ Some y → has_session from sid y ≡ false
unfolding by_session
nobody_passes t from sid none m y there = none_passes (has_session from sid) t.clients none m y there

module _ (reads : LinkReads) (up : IsReadUp begun) {brought : ℕ → ℕ → Arrival → Type 0} {base : Before} where
  opened_kept : (from : Addr) (c : Course) (draw : Draw) → Kept brought base c → Kept brought base (opened_for from c (session_begun c.table draw))
  unfolding began
  opened_kept from c draw is =
      let lines = lines_of c.table.clients in
      let later = lines_of (opened_for from c (session_begun c.table draw)).table.clients in
      begins_kept later (length lines) zero (record { 0 = c.table.connections }) Server up refl
      (ap (λ o. line_in o zero) (get_past lines))
      (subst (λ all. LinePut lines all (length lines) zero (begun_line c.table.connections 0)) (sym (new_lines from c draw)) (joined_put lines (begun_line c.table.connections 0)))
      is

  admitted_kept : (d : FromWire) (draw : Draw) (op : Opcode) (r : ControlPacket) (c : Course) → by_session c.table d.from (sid_of r.packet) ≡ None → begins_client op r ≡ true →
      is_full c.table ≡ false → (r.packet.id == 0) ≡ false → GoesThere brought c.table d.from op r → Kept brought base c → Kept brought base (admitted d draw r c)
  admitted_kept d draw op r c nobody begins room used goes is =
      let n = length c.table.clients in
      let e = opened_for d.from c (session_begun c.table draw) in
      to_client_kept reads up r n e
      (λ x here k session id carries. goes n k (New (record {
        nobody = nobody_passes c.table d.from (sid_of r.packet) nobody;
        begins = begins;
        has_room = room;
        used = used;
        next = refl;
        first = new_first d.from c draw e.table r k (subst (λ y. IsFound e.table y r k) (sym (new_is d.from c draw x here)) session.placed);
      })) id carries)
      (opened_kept d.from c draw is)

  wrapped_kept : (d : FromWire) (draw : Draw) (op : Opcode) (r : ControlPacket) (c : Course) (b : Bool) → (r.packet.id == 0) ≡ b → by_session c.table d.from (sid_of r.packet) ≡ None →
      begins_client op r ≡ true → is_full c.table ≡ false → GoesThere brought c.table d.from op r → Kept brought base c →
      Kept brought base (if b then reported (notes.Replayed r.packet.time r.packet.id) c else admitted d draw r c)
  wrapped_kept d draw op r c true used nobody begins room goes is = did_kept (Report (notes.Replayed r.packet.time r.packet.id)) c refl is
  wrapped_kept d draw op r c false used nobody begins room goes is = admitted_kept d draw op r c nobody begins room used goes is

  unless_full_kept : (d : FromWire) (draw : Draw) (op : Opcode) (r : ControlPacket) (c : Course) (b : Bool) → is_full c.table ≡ b → by_session c.table d.from (sid_of r.packet) ≡ None →
      begins_client op r ≡ true → GoesThere brought c.table d.from op r → Kept brought base c → Kept brought base (admitted_unless_full d draw r c b)
  unless_full_kept d draw op r c true room nobody begins goes is = did_kept (Report (notes.Full c.table.settings.max_clients)) c refl is
  unless_full_kept d draw op r c false room nobody begins goes is = wrapped_kept d draw op r c (r.packet.id == 0) refl nobody begins room goes is

  nobody_kept : (d : FromWire) (draw : Draw) (op : Opcode) (r : ControlPacket) (c : Course) (b : Bool) → begins_client op r ≡ b → by_session c.table d.from (sid_of r.packet) ≡ None →
      GoesThere brought c.table d.from op r → Kept brought base c → Kept brought base (of_nobody d draw r c b)
  nobody_kept d draw op r c true begins nobody goes is = unless_full_kept d draw op r c (is_full c.table) refl nobody begins goes is
  nobody_kept d draw op r c false begins nobody goes is = did_kept (Report (notes.UnknownSession (sid_of r.packet))) c refl is

  at_kept : (d : FromWire) (draw : Draw) (op : Opcode) (r : ControlPacket) (c : Course) (n : Option ℕ) → by_session c.table d.from (sid_of r.packet) ≡ n →
      GoesThere brought c.table d.from op r → Kept brought base c → Kept brought base (control_at d draw op r c n)
  at_kept d draw op r c (Some n) found goes is =
      to_client_kept reads up r n c
      (λ x here k session id carries. goes n k (Known (record {
        client = x;
        there = (here_at c.table n x here).there;
        sends = found_sends c.table d.from (sid_of r.packet) n x found here;
        fresh = session.fresh;
        placed = found_placed c.table x r k session.placed;
      })) id carries)
      is
  at_kept d draw op r c None found goes is = nobody_kept d draw op r c (begins_client op r) refl found goes is

  read_kept : (d : FromWire) (draw : Draw) (op : Opcode) (kid : ℕ) (sid : Sid) (p : Packet) (c : Course) (form : Result ControlForm Malformed) →
      packet_of d.bytes ≡ Ok (Wrapped op kid sid) → unwrapping (client_wraps c.table) d.bytes ≡ Some p → control_of op p.plain ≡ form →
      Told brought base.static c.table d → Kept brought base c → Kept brought base (control_read d draw op p c form)
  read_kept d draw op kid sid p c (Err e) outer unwraps reads_form told is = did_kept (Report (notes.Malformed e (first_of d.bytes))) c refl is
  read_kept d draw op kid sid p c (Ok form) outer unwraps reads_form told is =
      let r : ControlPacket = record { packet = p; form = form } in
      at_kept d draw op r c (by_session c.table d.from (sid_of p)) refl
      (told op r (record {
        bytes = d.bytes;
        is_datagram = refl;
        outer_kid = kid;
        outer_sid = sid;
        is_control = outer;
        unwraps = subst (λ key. unwrapping (wraps_of_clients key) d.bytes ≡ Some p) is.same_key unwraps;
        reads = reads_form;
      })) is

  unwrapped_kept : (d : FromWire) (draw : Draw) (op : Opcode) (kid : ℕ) (sid : Sid) (c : Course) (p : Option Packet) → packet_of d.bytes ≡ Ok (Wrapped op kid sid) →
      unwrapping (client_wraps c.table) d.bytes ≡ p → Told brought base.static c.table d → Kept brought base c → Kept brought base (control_unwrapped d draw op c p)
  unwrapped_kept d draw op kid sid c None outer unwraps told is = did_kept (Report notes.NotWrapped) c refl is
  unwrapped_kept d draw op kid sid c (Some p) outer unwraps told is = read_kept d draw op kid sid p c (control_of op p.plain) outer unwraps refl told is

  pub control_kept : (d : FromWire) (draw : Draw) (op : Opcode) (kid : ℕ) (sid : Sid) (c : Course) → packet_of d.bytes ≡ Ok (Wrapped op kid sid) →
      Told brought base.static c.table d → Kept brought base c → Kept brought base (control_arrived d draw op c)
  unfolding control_arrived
  control_kept d draw op kid sid c outer told is = unwrapped_kept d draw op kid sid c (unwrapping (client_wraps c.table) d.bytes) outer refl told is

-- ---- the key id

pub new_kid : (op : Opcode) (r : ControlPacket) → begins_client op r ≡ true → carried_kid r ≡ 0
new_kid op r begins =
    let a = and_parts (is_client_reset op && (carried_kid r == 0)) (is_first r.form.id) begins in
    eqb-true (carried_kid r) 0 (and_parts (is_client_reset op) (carried_kid r == 0) a.0).1

pub goes_kid : (t : Table) (from : Addr) (op : Opcode) (r : ControlPacket) (n k : ℕ) → GoesTo t from op r n k → carried_kid r ≡ kid_of k
goes_kid t from op r n k (Known of) = placed_kid t of.client r k of.placed
goes_kid t from op r n k (New admits) = new_kid op r admits.begins ∙ ap kid_of (sym admits.first)
