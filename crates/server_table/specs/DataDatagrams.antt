-- A data packet comes from the wire.
use Rattle.std.specs.Prelude.{ℕ, ◌==◌, ◌&&◌, not, Bool, true, false, List, [], ◌∷◌, length, Option, Some, None, Result, Ok, Err}
use Rattle.std.specs.Str.{bytes_eq}
use Rattle.vpn_base.specs.declared.address.Addr.{Addr}
use Rattle.vpn_base.specs.declared.names.Place.{Place}
use Rattle.vpn_base.specs.declared.names.Sid.{Sid}
use Rattle.vpn_links.specs.declared.notes.Note.TheVariants as notes
use Rattle.opcode_codec.specs.DataPacket.{DataForm}
use Rattle.ip_packets.specs.Inner.{source}
use Rattle.inner_verdict.specs.declared.Verdict.{Verdict}
use Rattle.inner_verdict.specs.declared.Verdict.TheVariants.{NotIp, TooLong, Multicast, BadSource, ToClient, ToDevice, NoRoute}
use Rattle.inner_verdict.specs.Verdict.{verdict}
use Rattle.peer_table.specs.declared.outcomes.SessionFault.{SessionFault}
use Rattle.peer_table.specs.declared.outcomes.SessionFault.TheVariants as faults
use Rattle.peer_table.specs.KeySessions.{usable_with}
use Rattle.peer_table.specs.Naming.{place_numbered}
use Rattle.peer_table.specs.Peer.{Outcome, Peer}
use Rattle.peer_table.specs.DataPackets as packets
use Rattle.server_table.specs.Table.{Client, Table}
use Rattle.server_table.specs.Lookups.{by_peer_id, by_session, cid, client_here, is_address}
use Rattle.server_table.specs.Courses.{Course, counted, reported, with_client}
use Rattle.server_table.specs.InnerPackets.{learned, queued, sealed_to}

-- a datagram, where it came from, and whether there is no memory to learn a host of it
pub record FromWire : Type 0 where
  pub from : Addr
  pub bytes : List ℕ
  pub lacks : Bool

-- the payload by which an end says that it is there (OpenVPN 2.6, src/openvpn/ping.c)
abbrev pub ping : List ℕ
ping = 42 ∷ 24 ∷ 123 ∷ 243 ∷ 100 ∷ 30 ∷ 180 ∷ 203 ∷ 7 ∷ 237 ∷ 45 ∷ 10 ∷ 152 ∷ 31 ∷ 199 ∷ 72 ∷ []

-- ---- what it carries

-- by the verdict on a client's packet. A client's packet always has a route: what no client owns goes to the device.
abbrev pub passed : Bool → ℕ → List ℕ → Course → Verdict → Course
passed lacks n inner c NotIp = reported (notes.NotIp (Some (cid n))) c
passed lacks n inner c TooLong = reported (notes.TooLong (Some (cid n))) c
passed lacks n inner c Multicast = reported (notes.Multicast (Some (cid n))) c
passed lacks n inner c (BadSource owner) = reported (notes.BadSource (cid n) owner) c
passed lacks n inner c (ToClient target) = sealed_to target.0 inner (learned lacks n (source inner) c)
passed lacks n inner c ToDevice = queued n inner (learned lacks n (source inner) c)
passed lacks n inner c NoRoute = reported notes.NoRoute c

-- whether a packet is a ping, which goes nowhere
abbrev pub carried_as : Bool → ℕ → List ℕ → Course → Bool → Course
carried_as lacks n inner c true = reported (notes.Ping (cid n)) c
carried_as lacks n inner c false =
    passed lacks n inner c (verdict c.table.routes.rows c.table.settings.net c.table.settings.between (Some (cid n)) inner)

-- an inner packet of the client of this number
unfoldable pub carried : Bool → ℕ → List ℕ → Course → Course
carried lacks n inner c = carried_as lacks n inner c (bytes_eq inner ping)

-- ---- who sent it

-- whether another client than this one has this address with the same session id
abbrev pub is_other : ℕ → Option ℕ → Bool
is_other n None = false
is_other n (Some m) = not (m == n)

-- whether a client's session id is taken at an address
abbrev pub is_taken : Table → ℕ → Addr → Option Sid → Bool
is_taken t n from None = false
is_taken t n from (Some sid) = is_other n (by_session t from sid)

-- a client that sends from another address has moved there, unless another client is there with its session id
abbrev pub moved_if : ℕ → Addr → Course → Bool → Course
moved_if n from c false = c
moved_if n from c true =
    reported (notes.Moved (cid n) from) (record c { table = with_client n (λ x. record x { address = from }) c.table })

-- where it came from, by the client that sent it
abbrev pub moved : ℕ → Addr → Client → Course → Course
moved n from x c = moved_if n from c (not (is_address x.address from) && not (is_taken c.table n from x.session.remote))

-- ---- whether it opens

-- its bytes count, its client is heard
abbrev pub with_opened : ℕ → Peer → ℕ → Client → Client
with_opened now peer bytes x = record x { session = peer; heard = now; bytes_in = counted x.bytes_in bytes }

-- the datagram went to this key session
abbrev pub went_to : Option Place → Table → Table
went_to to t = record t { last_taken = to }

-- the key session of this number, if there is a number
abbrev pub place_found : Option ℕ → Peer → Option Place
place_found None p = None
place_found (Some k) p = place_numbered k p

-- the key session to which a data packet goes that opens at this moment: the usable one with its key id
abbrev pub data_place : ℕ → List ℕ → Peer → Option Place
data_place now bytes p = place_found (usable_with p.timers now p.sessions (packets.data_kid bytes)) p

-- it opened, and its id was fresh
abbrev pub accepted : FromWire → ℕ → Client → Course → Peer → Course
accepted d n x c peer = record c {
  table = record (went_to (data_place c.table.moment d.bytes x.session) (with_client n (with_opened c.table.moment peer (length d.bytes)) c.table))
      { bytes_in = counted c.table.bytes_in (length d.bytes) };
}

-- why a data packet is refused
abbrev pub refused : FromWire → ℕ → Client → Course → SessionFault → Course
refused d n x c (faults.BadKey kid) = reported (notes.BadKey (cid n) kid) c
refused d n x c faults.NotSealed = reported (notes.NotSealed (cid n)) c
refused d n x c (faults.Stale kind id greatest) =
    reported (notes.Stale (cid n) kind id greatest) (record c { table = went_to (data_place c.table.moment d.bytes x.session) c.table })

-- whether the session took it: then the client may have moved, and the inner packet goes on
abbrev pub opened_as : FromWire → ℕ → Client → Course → Peer → Result (List ℕ) SessionFault → Course
opened_as d n x c peer (Err fault) = refused d n x c fault
opened_as d n x c peer (Ok inner) = carried d.lacks n inner (moved n d.from x (accepted d n x c peer))

-- what the session answers
abbrev pub opened : FromWire → ℕ → Client → Course → Outcome (Result (List ℕ) SessionFault) → Course
opened d n x c o = opened_as d n x c o.peer o.answer

-- the client of a number tries to open it
abbrev pub data_for : FromWire → ℕ → Course → Option Client → Course
data_for d n c None = c
data_for d n c (Some x) = opened d n x c (packets.data_came d.bytes (record { 0 = c.table.moment }) x.session)

-- the client with its peer id
abbrev pub data_at : FromWire → ℕ → Course → Option ℕ → Course
data_at d peer c None = reported (notes.UnknownPeer peer) c
data_at d peer c (Some n) = data_for d n c (client_here c.table n)

-- A data packet has come. Refused in this order: no client has its peer id, no usable session has its key id, it does not open, its id is
-- stale. Else its id is accepted, its bytes count, and its client may have moved; a ping goes nowhere, and another inner packet goes by its
-- verdict.
unfoldable pub data_came : FromWire → DataForm → Course → Course
data_came d f c = data_at d f.peer c (by_peer_id c.table f.peer)
