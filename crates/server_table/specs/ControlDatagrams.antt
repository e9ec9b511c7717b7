-- A control packet comes from the wire.
use Rattle.std.specs.Prelude.{ℕ, is_some, ◌==◌, ◌&&◌, ◌%◌, Bool, true, false, List, [], ◌∷◌, ◌++◌, length, take, Option, Some, None, Result, Ok, Err, slice_get, if◌then◌else◌}
use Rattle.vpn_base.specs.declared.address.Addr.{Addr}
use Rattle.vpn_base.specs.declared.names.Draw.{Draw}
use Rattle.vpn_base.specs.declared.names.Malformed.{Malformed}
use Rattle.vpn_base.specs.declared.names.Place.{Place}
use Rattle.vpn_base.specs.declared.names.Role.TheVariants.{Server}
use Rattle.vpn_base.specs.declared.names.Sid.{Sid}
use Rattle.vpn_links.specs.declared.notes.Note.TheVariants as notes
use Rattle.opcode_codec.specs.ControlText.{ControlForm, control_of}
use Rattle.opcode_codec.specs.declared.opcodes.Opcode.{Opcode}
use Rattle.opcode_codec.specs.declared.opcodes.Opcode.TheVariants.{ClientReset}
use Rattle.tls_crypt.specs.Packets.{Packet, Wrapping}
use Rattle.tls_crypt.specs.Unwrapping.{unwrapping}
use Rattle.tls_crypt.specs.Wrapped.{half, keys_of, read_half, wrapped, written_half}
use Rattle.peer_table.specs.declared.outcomes.Refused.{Refused}
use Rattle.peer_table.specs.declared.outcomes.Refused.TheVariants.{Replayed, BadKey}
use Rattle.peer_table.specs.declared.outcomes.Turn.{Turn}
use Rattle.peer_table.specs.ControlPackets.{Incoming, control_came, is_first, kid_in, sid_of}
use Rattle.peer_table.specs.KeySessions.{live_with}
use Rattle.peer_table.specs.Naming.{number_of, place_numbered}
use Rattle.peer_table.specs.Peer.{Outcome, Peer, began}
use Rattle.server_table.specs.Table.{Client, Table, Unasked}
use Rattle.server_table.specs.Lookups.{by_session, cid, client_here, free_peer_id, is_full}
use Rattle.server_table.specs.Courses.{Course, acted, client_changed, reported}
use Rattle.server_table.specs.Endings.{turned}
use Rattle.server_table.specs.DataDatagrams.{FromWire, went_to}

-- ---- what the client's session makes of it

-- a control packet that unwrapped, with what its plain text says
pub record ControlPacket : Type 0 where
  pub packet : Packet
  pub form : ControlForm

-- the packet as it comes to a client, in this course
abbrev pub incoming : ControlPacket → Course → Client → Incoming
incoming r c x = record {
  packet = r.packet;
  form = r.form;
  moment = record { 0 = c.table.moment };
  next_conn = record { 0 = c.table.connections };
  established = is_some x.established;
}

-- something fresh has come of a client
abbrev pub with_fresh : ℕ → Client → Client
with_fresh now x = record x { heard = now }

-- the key session to which a control packet went that was taken: of those that the client had, the live one with its key id, or else the
-- one that it began; as that key session stands then, where the client's session id is fixed
abbrev pub control_place : Incoming → Peer → Peer → Option Place
control_place i p after = place_numbered (number_of p (live_with p.timers i.moment.0 p.sessions (kid_in i))) after

-- A packet whose wrap is fresh is something fresh of its client, also where no session takes it. One that was taken went to its
-- session, and may end the client.
abbrev pub control_answered : ℕ → Option Place → Course → Result Turn Refused → Course
control_answered n to c (Ok turn) = turned n turn (client_changed n (with_fresh c.table.moment) (record c { table = went_to to c.table }))
control_answered n to c (Err (BadKey kid)) = reported (notes.BadKey (cid n) kid) (client_changed n (with_fresh c.table.moment) c)
control_answered n to c (Err (Replayed time id)) = reported (notes.Replayed time id) c

-- the session has answered
abbrev pub control_acted : ℕ → Client → Incoming → Course → Outcome (Result Turn Refused) → Course
control_acted n x i c o = control_answered n (control_place i x.session o.peer) (acted n x.address o c) o.answer

-- the client of a number takes it
abbrev pub control_for : ControlPacket → ℕ → Course → Option Client → Course
control_for r n c None = c
control_for r n c (Some x) = control_acted n x (incoming r c x) c (control_came x.session (incoming r c x))

-- the same, where it is here
unfoldable pub to_client : ControlPacket → ℕ → Course → Course
to_client r n c = control_for r n c (client_here c.table n)

-- ---- admission

-- how the server wraps, and how its clients do
abbrev pub server_wraps : Table → Wrapping
server_wraps t = wrapped (keys_of (half t.key (written_half Server)))

-- the wrapping of a client, which the server undoes
abbrev pub client_wraps : Table → Wrapping
client_wraps t = wrapped (keys_of (half t.key (read_half Server)))

-- the server's session id for a client: the first 8 bytes of the draw of the event that admits it
abbrev pub own_sid : Draw → Sid
own_sid draw = record { 0 = take 8 draw.0 }

-- a client that is admitted now, at this address, with a session that has begun
abbrev pub client_begun : Table → Addr → Peer → Client
client_begun t from peer = record {
  is_here = true;
  peer_id = free_peer_id t;
  address = from;
  session = peer;
  file = Unasked;
  established = None;
  heard = t.moment;
  sealed_at = t.moment;
  bytes_in = 0;
  bytes_out = 0;
}

-- its session begins on the next connection
abbrev pub session_begun : Table → Draw → Outcome Turn
session_begun t draw = began Server (server_wraps t) (own_sid draw) t.settings.timers (record { 0 = t.connections }) t.moment

-- it stands behind all others
abbrev pub with_admitted : Client → Course → Course
with_admitted x c = record c { table = record c.table { clients = c.table.clients ++ x ∷ [] } }

-- the client is here, and its connection is opened
abbrev pub opened_for : Addr → Course → Outcome Turn → Course
opened_for from c o = acted (length c.table.clients) from o (with_admitted (client_begun c.table from o.peer) c)

-- a client is admitted, and takes the packet
abbrev pub admitted : FromWire → Draw → ControlPacket → Course → Course
admitted d draw r c = to_client r (length c.table.clients) (opened_for d.from c (session_begun c.table draw))

-- a wrap id of 0 was never used by a client
abbrev pub admitted_if_wrapped : FromWire → Draw → ControlPacket → Course → Course
admitted_if_wrapped d draw r c =
    if r.packet.id == 0 then reported (notes.Replayed r.packet.time r.packet.id) c else admitted d draw r c

-- nobody is admitted where as many clients are here as may be
abbrev pub admitted_unless_full : FromWire → Draw → ControlPacket → Course → Bool → Course
admitted_unless_full d draw r c true = reported (notes.Full c.table.settings.max_clients) c
admitted_unless_full d draw r c false = admitted_if_wrapped d draw r c

-- whether the opcode is that of a client's reset
abbrev pub is_client_reset : Opcode → Bool
is_client_reset ClientReset = true
is_client_reset op = false

-- whether a packet begins a client: a client's reset with key id 0 and packet id 0
abbrev pub begins_client : Opcode → ControlPacket → Bool
begins_client op r = is_client_reset op && (r.packet.first % 8 == 0) && is_first r.form.id

-- a packet of no client
abbrev pub of_nobody : FromWire → Draw → ControlPacket → Course → Bool → Course
of_nobody d draw r c true = admitted_unless_full d draw r c (is_full c.table)
of_nobody d draw r c false = reported (notes.UnknownSession (sid_of r.packet)) c

-- ---- from whom it is

-- the first byte of a datagram, if it has one
abbrev pub first_of : List ℕ → Option ℕ
first_of bytes = slice_get bytes 0

-- the client at this address with this session id
abbrev pub control_at : FromWire → Draw → Opcode → ControlPacket → Course → Option ℕ → Course
control_at d draw op r c (Some n) = to_client r n c
control_at d draw op r c None = of_nobody d draw r c (begins_client op r)

-- whether its plain text is that of a control packet
abbrev pub control_read : FromWire → Draw → Opcode → Packet → Course → Result ControlForm Malformed → Course
control_read d draw op p c (Err e) = reported (notes.Malformed e (first_of d.bytes)) c
control_read d draw op p c (Ok form) =
    control_at d draw op (record { packet = p; form = form }) c (by_session c.table d.from (sid_of p))

-- whether a client has wrapped it
abbrev pub control_unwrapped : FromWire → Draw → Opcode → Course → Option Packet → Course
control_unwrapped d draw op c None = reported notes.NotWrapped c
control_unwrapped d draw op c (Some p) = control_read d draw op p c (control_of op p.plain)

-- A control packet has come. Refused in this order: no client has wrapped it, its plain text is malformed, no client has its address and
-- session id and none is admitted by it, its wrap is replayed, no session takes it.
unfoldable pub control_arrived : FromWire → Draw → Opcode → Course → Course
control_arrived d draw op c = control_unwrapped d draw op c (unwrapping (client_wraps c.table) d.bytes)
