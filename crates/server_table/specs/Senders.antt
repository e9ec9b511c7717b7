-- Which key session sent a datagram.
use Rattle.std.specs.Prelude.{ℕ, ◌==◌, Bool, List, [], ◌∷◌, Option, None, Some, Result, Ok, Err, if◌then◌else◌}
use Rattle.std.specs.Option.{option_or}
use Rattle.std.specs.Str.{bytes_eq}
use Rattle.vpn_base.specs.declared.address.Addr.{Addr}
use Rattle.vpn_base.specs.declared.names.Malformed.{Malformed}
use Rattle.vpn_base.specs.declared.names.Place.{Place}
use Rattle.opcode_codec.specs.Packet.{PacketForm, Inner, Wrapped, packet_of}
use Rattle.peer_table.specs.Naming.{place}
use Rattle.server_table.specs.Table.{Client, Table}
use Rattle.server_table.specs.Lookups.{is_address}

-- the key id in a packet
abbrev pub kid_in : PacketForm → ℕ
kid_in (Wrapped op kid sid) = kid
kid_in (Inner f) = f.kid

-- whether a packet names a key session of the client with this peer id: a data packet by the peer id, a control packet by the server's
-- session id
abbrev pub names : PacketForm → ℕ → Place → Bool
names (Wrapped op kid sid) peer_id at = bytes_eq at.own.0 sid.0
names (Inner f) peer_id at = peer_id == f.peer

-- a key session of the client with this peer id, where the packet names it
abbrev pub if_named : PacketForm → ℕ → Option Place → Option Place
if_named packet peer_id None = None
if_named packet peer_id (Some at) = if names packet peer_id at then Some at else None

-- the same where the client has the address to which the packet was sent
abbrev pub sent_here : Addr → PacketForm → Addr → ℕ → Option Place → Option Place
sent_here to packet address peer_id at = if is_address address to then if_named packet peer_id at else None

-- the key session of a client that is here by which the packet may have been sent: the open one with its key id
abbrev pub sent_from : Addr → PacketForm → Client → Option Place
sent_from to packet x = if x.is_here then sent_here to packet x.address x.peer_id (place (kid_in packet) x.session) else None

-- of these clients the first that has one
abbrev pub first_sent : Addr → PacketForm → List Client → Option Place
first_sent to packet [] = None
first_sent to packet (x ∷ clients) = option_or (sent_from to packet x) (first_sent to packet clients)

-- a datagram that is no packet was sent by none
abbrev pub sent_packet : Addr → List Client → Result PacketForm Malformed → Option Place
sent_packet to clients (Err e) = None
sent_packet to clients (Ok packet) = first_sent to packet clients

-- the key session that sent a datagram to this address, by what the datagram tells; of several the one of the least client number
unfoldable pub sent_by : Table → Addr → List ℕ → Option Place
sent_by t to datagram = sent_packet to t.clients (packet_of datagram)
