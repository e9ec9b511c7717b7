-- Which wraps of control packets were accepted, by the time and the id that stand in them.
use Rattle.std.specs.Prelude.{◌≡◌, ◌==◌, ◌&&◌, ℕ, true, false, List, length, slice_get, Some, Ok}
use Rattle.std.specs.List.{list_any}
use Rattle.vpn_base.specs.declared.address.Addr.{Addr}
use Rattle.vpn_base.specs.declared.names.Freshness.TheVariants.{Fresh}
use Rattle.vpn_base.specs.declared.names.Sid.{Sid}
use Rattle.vpn_links.specs.declared.events.Event.{Event}
use Rattle.vpn_links.specs.declared.events.Kind.TheVariants.{Datagram}
use Rattle.opcode_codec.specs.ControlText.{control_of}
use Rattle.opcode_codec.specs.declared.opcodes.Opcode.{Opcode}
use Rattle.opcode_codec.specs.Packet.{Wrapped, packet_of}
use Rattle.packet_ids.specs.LongFreshness.{LongAccepted, long_freshness}
use Rattle.tls_crypt.specs.Unwrapping.{unwrapping}
use Rattle.peer_table.specs.ControlPackets.{sid_of}
use Rattle.peer_table.specs.Peer.{Peer}
use Rattle.server_table.specs.Table.{Client, Table}
use Rattle.server_table.specs.Lookups.{client_here, has_session, is_full}
use Rattle.server_table.specs.ControlDatagrams.{ControlPacket, begins_client, client_wraps}
use Rattle.server_table.specs.Step.{is_over, moment_of}

-- a wrap of this time and id was accepted
abbrev pub HasWrap : Peer → ℕ → ℕ → Type 0
HasWrap p time id = list_any (λ (e : LongAccepted). (e.time == time) && (e.id == id)) p.envelope.accepted.accepted ≡ true

-- each wrap that was accepted is so later
abbrev pub WrapsStay : Peer → Peer → Type 0
WrapsStay p later = (time id : ℕ) → HasWrap p time id → HasWrap later time id

-- A server that takes events still gets a control packet in this event: a datagram of this address that unwraps under the static key, and whose plain
-- text is read.
pub record ComesWrapped (t : Table) (event : Event) (from : Addr) (op : Opcode) (r : ControlPacket) : Type 0 where
  pub is_taken : is_over t ≡ false
  pub bytes : List ℕ
  pub comes : event.kind ≡ Datagram from bytes
  pub kid : ℕ
  pub sid : Sid
  pub is_control : packet_of bytes ≡ Ok (Wrapped op kid sid)
  pub unwraps : unwrapping (client_wraps t) bytes ≡ Some r.packet
  pub reads : control_of op r.packet.plain ≡ Ok r.form

-- it is of the client of this number, which is here, by its address and session id, and is fresh by all wraps that were ever accepted of it
pub record IsFreshOf (t : Table) (moment : ℕ) (from : Addr) (r : ControlPacket) (n : ℕ) : Type 0 where
  pub client : Client
  pub client_here : client_here t n ≡ Some client
  pub sends : has_session from (sid_of r.packet) client ≡ true
  pub is_fresh : long_freshness client.session.envelope.accepted r.packet.time r.packet.id (record { 0 = moment }) ≡ Fresh

-- it admits the next client, which has this number: no client has its address and session id, it begins one, not as many are here as may be, and
-- its wrap id is not 0
pub record IsAdmitting (t : Table) (from : Addr) (op : Opcode) (r : ControlPacket) (n : ℕ) : Type 0 where
  pub nobody : (m : ℕ) (y : Client) → slice_get t.clients m ≡ Some y → has_session from (sid_of r.packet) y ≡ false
  pub begins : begins_client op r ≡ true
  pub has_room : is_full t ≡ false
  pub used : (r.packet.id == 0) ≡ false
  pub next : n ≡ length t.clients

-- a control packet comes whose wrap is accepted of the client of this number, be it there already or admitted by it
pub data AcceptsWrap (t : Table) (event : Event) (n : ℕ) (r : ControlPacket) : Type 0 where
  IsOf : (from : Addr) (op : Opcode) → ComesWrapped t event from op r → IsFreshOf t (moment_of t event) from r n → AcceptsWrap t event n r
  Admits : (from : Addr) (op : Opcode) → ComesWrapped t event from op r → IsAdmitting t from op r n → AcceptsWrap t event n r
