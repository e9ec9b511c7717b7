-- Where inner packets go: sealed to a client, or to the queue of the packet device; and which hosts are learned of them.
use Rattle.std.specs.Prelude.{ℕ, ◌==◌, ◌&&◌, nat_le, not, Bool, true, false, List, [], ◌∷◌, ◌++◌, length, Option, Some, None, Result, Ok, Err}
use Rattle.vpn_base.specs.declared.address.Ip4.{Ip4}
use Rattle.vpn_links.specs.Actions.{Device, Wire}
use Rattle.vpn_links.specs.declared.notes.Note.TheVariants.{KeySpent, NotLearned, QueueFull}
use Rattle.packet_ids.specs.declared.sending.Spent.{Spent}
use Rattle.peer_table.specs.Peer.{Outcome, Peer}
use Rattle.peer_table.specs.DataPackets as packets
use Rattle.route_table.specs.Learned.{is_learned, with_host}
use Rattle.server_table.specs.Table.{Client, Established}
use Rattle.server_table.specs.Lookups.{cid, client_here}
use Rattle.server_table.specs.Courses.{Course, counted, did, reported, with_client}

-- ---- to a client

-- a packet was sealed to a client
abbrev pub with_sent : ℕ → Peer → ℕ → Client → Client
with_sent now peer bytes x = record x { session = peer; sealed_at = now; bytes_out = counted x.bytes_out bytes }

-- it goes to the client's address, where packet ids are left
abbrev pub sealed_as : ℕ → Client → Course → Peer → Result (List ℕ) Spent → Course
sealed_as n x c peer (Ok datagram) =
    did (Wire x.address datagram)
    (record c {
      table = record (with_client n (with_sent c.table.moment peer (length datagram)) c.table)
          { bytes_out = counted c.table.bytes_out (length datagram) };
    })
sealed_as n x c peer (Err spent) = reported (KeySpent (cid n)) c

-- what came of sealing
abbrev pub sealed_with : ℕ → Client → Course → Outcome (Result (List ℕ) Spent) → Course
sealed_with n x c o = sealed_as n x c o.peer o.answer

-- a client that is not here owns nothing
abbrev pub sealed_for : ℕ → List ℕ → Course → Option Client → Course
sealed_for n inner c None = c
sealed_for n inner c (Some x) = sealed_with n x c (packets.sealed_to inner x.session)

-- an inner packet is sealed to the client of this number, under its newest usable keys
unfoldable pub sealed_to : ℕ → List ℕ → Course → Course
sealed_to n inner c = sealed_for n inner c (client_here c.table n)

-- ---- to the device

-- as many packets may wait for the device
abbrev pub most_queued : ℕ
most_queued = 64

-- it waits behind those that wait, or the queue is full
abbrev pub queued_unless_full : ℕ → List ℕ → Course → Bool → Course
queued_unless_full n inner c true = reported (QueueFull (cid n)) c
queued_unless_full n inner c false = record c { table = record c.table { queue = c.table.queue ++ inner ∷ [] } }

-- a packet of the client of this number is for the device
unfoldable pub queued : ℕ → List ℕ → Course → Course
queued n inner c = queued_unless_full n inner c (nat_le most_queued (length c.table.queue))

-- the oldest packet that waits is given to the device
abbrev pub dequeued : Course → List (List ℕ) → Course
dequeued c [] = c
dequeued c (packet ∷ packets) = did (Device packet) (record c { table = record c.table { queue = packets } })

-- the device takes a packet
unfoldable pub device_ready : Course → Course
device_ready c = dequeued c c.table.queue

-- ---- learned hosts

-- whether an address is a client's own
abbrev pub is_own : Ip4 → Option Established → Bool
is_own host None = false
is_own host (Some e) = e.address.0 == host.0

-- whether the source of a client's packet is a host that is to be learned: it is not the client's own address
abbrev pub is_host : Ip4 → Client → Bool
is_host host x = not (is_own host x.established)

-- a host that needs memory, which is not there, is left out
abbrev pub learned_unless_lacking : ℕ → Ip4 → Course → Bool → Course
learned_unless_lacking n host c true = reported (NotLearned (cid n) host) c
learned_unless_lacking n host c false = record c { table = record c.table { routes = with_host host (cid n) c.table.routes } }

-- nothing is learned where the source is no host that is to be learned
abbrev pub learned_where : Bool → ℕ → Ip4 → Course → Bool → Course
learned_where lacks n host c false = c
learned_where lacks n host c true = learned_unless_lacking n host c (lacks && not (is_learned c.table.routes.learned host))

-- whether a client's packet has a source that is to be learned
abbrev pub is_host_of : Ip4 → Option Client → Bool
is_host_of host None = false
is_host_of host (Some x) = is_host host x

-- the source of a packet of the client of this number is learned; `lacks` says that there is no memory for it
unfoldable pub learned : Bool → ℕ → Ip4 → Course → Course
learned lacks n host c = learned_where lacks n host c (is_host_of host (client_here c.table n))
