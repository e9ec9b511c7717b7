-- The tests that a control packet meets whose payload is taken, and the key session that takes it.
use Rattle.std.specs.Prelude.{◌≡◌, ◌≢◌, ℕ, ◌%◌, ◌==◌, ◌&&◌, is_some, Bool, true, false, List, ◌∷◌, length, Some, slice_get, Ok}
use Rattle.std.specs.List.{list_any}
use Rattle.vpn_base.specs.declared.address.Addr.{Addr}
use Rattle.vpn_base.specs.declared.names.Freshness.TheVariants.{Fresh}
use Rattle.vpn_base.specs.declared.names.Role.TheVariants.{Server}
use Rattle.vpn_base.specs.declared.names.Sid.{Sid}
use Rattle.vpn_links.specs.declared.events.Event.{Event}
use Rattle.vpn_links.specs.declared.events.Kind.{Kind}
use Rattle.vpn_links.specs.declared.events.Kind.TheVariants.{Datagram}
use Rattle.opcode_codec.specs.ControlText.{control_of}
use Rattle.opcode_codec.specs.FirstByte.{opcode_of}
use Rattle.opcode_codec.specs.declared.opcodes.Opcode.{Opcode}
use Rattle.opcode_codec.specs.Packet.{Wrapped, packet_of}
use Rattle.packet_ids.specs.LongFreshness.{long_freshness}
use Rattle.tls_crypt.specs.Packets.{Wrapping}
use Rattle.tls_crypt.specs.Unwrapping.{unwrapping}
use Rattle.tls_crypt.specs.Wrapped.{half, keys_of, read_half, wrapped}
use Rattle.peer_table.specs.ControlPackets.{is_first, is_soft_reset, newest_is_finished, sid_of}
use Rattle.peer_table.specs.KeySessions.{kid_of, newest, usable}
use Rattle.server_table.specs.Table.{Client, Table}
use Rattle.server_table.specs.Lookups.{has_session, is_full}
use Rattle.server_table.specs.ControlDatagrams.{ControlPacket, begins_client}
use Rattle.server_table.specs.Step.{course_begun, is_over}

-- ---- the packet

-- the wrapping of clients, by the static key
abbrev pub wraps_of_clients : List ℕ → Wrapping
wraps_of_clients key = wrapped (keys_of (half key (read_half Server)))

-- An event brings this control packet: it is a datagram from this address that has a control opcode, unwraps under the static key to this
-- packet, and has a plain text that is read.
pub record IsControlPacket (key : List ℕ) (kind : Kind) (from : Addr) (op : Opcode) (r : ControlPacket) : Type 0 where
  pub bytes : List ℕ
  pub is_datagram : kind ≡ Datagram from bytes
  pub outer_kid : ℕ
  pub outer_sid : Sid
  pub is_control : packet_of bytes ≡ Ok (Wrapped op outer_kid outer_sid)
  pub unwraps : unwrapping (wraps_of_clients key) bytes ≡ Some r.packet
  pub reads : control_of op r.packet.plain ≡ Ok r.form

-- the key id that a control packet carries
abbrev pub carried_kid : ControlPacket → ℕ
carried_kid r = r.packet.first % 8

-- ---- the key session

-- whether a packet begins the client's next key session: a soft reset with the next key id and packet id 0, where the newest one is finished
abbrev pub begins_next_of : Client → ControlPacket → Bool
begins_next_of x r =
    is_soft_reset (opcode_of r.packet.first) && (carried_kid r == kid_of (length x.session.sessions)) && is_first r.form.id
    && newest_is_finished (is_some x.established) x.session.sessions

-- whether a client's key session is live: it is the newest one or a usable one
abbrev pub is_live : Table → Client → ℕ → Bool
is_live t x k = list_any (λ n. n == k) (newest x.session.sessions ∷ usable x.session.timers t.moment x.session.sessions)

-- The client's key session of this number takes a packet: it is live and has the key id that the packet carries, or no live one has it and the packet
-- begins the next one.
pub data IsPlaced (t : Table) (x : Client) (r : ControlPacket) (k : ℕ) : Type 0 where
  Live : is_live t x k ≡ true → carried_kid r ≡ kid_of k → IsPlaced t x r k
  Next : ((j : ℕ) → is_live t x j ≡ true → carried_kid r ≢ kid_of j) → begins_next_of x r ≡ true → k ≡ length x.session.sessions → IsPlaced t x r k

-- ---- the client

-- A packet is a client's that is here, by its address and session id; its wrap is fresh there, by all that were accepted of this client; and
-- its session of this number takes it.
pub record IsOfClient (t : Table) (from : Addr) (r : ControlPacket) (n k : ℕ) : Type 0 where
  pub client : Client
  pub there : slice_get t.clients n ≡ Some client
  pub sends : has_session from (sid_of r.packet) client ≡ true
  pub fresh : long_freshness client.session.envelope.accepted r.packet.time r.packet.id (record { 0 = t.moment }) ≡ Fresh
  pub placed : IsPlaced t client r k

-- A packet admits the next client, whose session 0 takes it: no client has its address and session id, it is a client's reset with key id 0 and packet
-- id 0 under a wrap id that is not 0, and not as many clients are here as may be.
pub record Admits (t : Table) (from : Addr) (op : Opcode) (r : ControlPacket) (n k : ℕ) : Type 0 where
  pub nobody : (m : ℕ) (y : Client) → slice_get t.clients m ≡ Some y → has_session from (sid_of r.packet) y ≡ false
  pub begins : begins_client op r ≡ true
  pub has_room : is_full t ≡ false
  pub used : (r.packet.id == 0) ≡ false
  pub next : n ≡ length t.clients
  pub first : k ≡ 0

-- a packet from this address goes to session k of client n
pub data GoesTo (t : Table) (from : Addr) (op : Opcode) (r : ControlPacket) (n k : ℕ) : Type 0 where
  Known : IsOfClient t from r n k → GoesTo t from op r n k
  New : Admits t from op r n k → GoesTo t from op r n k

-- ---- all tests

-- A control packet of this event meets all tests, and is for session k of client n: the server takes events still; the datagram unwraps and is read; it is of
-- the client, or admits it; it is fresh; and the session is the one for it. The moment is that of the step.
pub record MeetsAll (key : List ℕ) (t : Table) (event : Event) (r : ControlPacket) (n k : ℕ) : Type 0 where
  pub goes_on : is_over t ≡ false
  pub from : Addr
  pub op : Opcode
  pub packet : IsControlPacket key event.kind from op r
  pub goes : GoesTo (course_begun t event).table from op r n k
