-- Every kind of event keeps what is kept by each thing that a step does.
use Rattle.std.proofs.Common.{◌≡◌, ℕ, Bool, List, length, Some, refl, Result, Ok, Err}
use Rattle.vpn_base.specs.declared.address.Addr.{Addr}
use Rattle.vpn_base.specs.declared.names.Draw.{Draw}
use Rattle.vpn_base.specs.declared.names.Malformed.{Malformed}
use Rattle.vpn_links.specs.Actions.{Wire}
use Rattle.vpn_links.specs.declared.events.Kind.{Kind}
use Rattle.vpn_links.specs.declared.events.Kind.TheVariants.{Datagram, EngineText, EnginePlain, EngineUp, EngineDown, DeviceIn, DeviceReady, File, Line, Tick, Halt}
use Rattle.vpn_links.specs.declared.notes.Note.TheVariants as notes
use Rattle.opcode_codec.specs.Packet.{PacketForm, Wrapped, Inner, packet_of}
use Rattle.packet_ids.specs.declared.sending.Spent.{Spent}
use Rattle.peer_table.specs.DataPackets as packets
use Rattle.peer_table.specs.Peer.{Peer}
use Rattle.server_table.specs.Table.{Client}
use Rattle.server_table.specs.Lookups.{cid, client_here}
use Rattle.server_table.specs.Courses.{Course, client_changed, counted, did, with_client}
use Rattle.server_table.specs.ControlDatagrams.{first_of}
use Rattle.server_table.specs.DataDatagrams.{FromWire, ping}
use Rattle.server_table.specs.InnerPackets.{sealed_as, with_sent}
use Rattle.server_table.specs.Step.{came, datagram_as}
use Rattle.server_laws.specs.HandedOn.{IsQuiet}
use Rattle.server_laws.specs.LastTaken.{IsApart}
use Rattle.server_laws.proofs.CallsKeep.{CallKept, sealed_call}
use Rattle.server_laws.proofs.Closed.{DealsWith, Goes, IsClosed, SealsOf, altered, reported_kept}
use Rattle.server_laws.proofs.ClosedEngine.{down_kept, engine_answered_kept, file_came_kept}
use Rattle.server_laws.proofs.ClosedSteps.{arrived_kept, data_course_kept, device_came_kept, device_ready_kept, halted_kept, line_kept, tick_course_kept}

module _ {P : Course → Type 0} (closed : IsClosed P) where
  -- a client to which a packet was sealed, before the datagram is sent
  pub sent_kept : (n : ℕ) (x : Client) (peer : Peer) (datagram : List ℕ) (c : Course) → client_here c.table n ≡ Some x → CallKept x.session peer → P c →
      P (record c { table = record (with_client n (with_sent c.table.moment peer (length datagram)) c.table) { bytes_out = counted c.table.bytes_out (length datagram) } })
  sent_kept n x peer datagram c here kept is =
      let f : Client → Client = with_sent c.table.moment peer (length datagram) in
      closed.other c.table.counted_at c.table.bytes_in (counted c.table.bytes_out (length datagram)) c.table.is_stopped (client_changed n f c)
      (altered closed n x f c here (record { here = refl; peer_id = refl; established = refl; session = kept; file = λ ccd e. e }) is)

  sealed_as_kept : ((to : Addr) (bytes : List ℕ) (c : Course) → P c → P (did (Wire to bytes) c)) → (n : ℕ) (x : Client) (peer : Peer) (r : Result (List ℕ) Spent) (c : Course) →
      client_here c.table n ≡ Some x → CallKept x.session peer → P c → P (sealed_as n x c peer r)
  sealed_as_kept wires n x peer (Ok datagram) c here kept is = wires x.address datagram _ (sent_kept n x peer datagram c here kept is)
  sealed_as_kept wires n x peer (Err spent) c here kept is = reported_kept closed (notes.KeySpent (cid n)) c is

  -- where any datagram may be sent, any packet may be sealed
  pub seals_all : ((to : Addr) (bytes : List ℕ) (c : Course) → P c → P (did (Wire to bytes) c)) → (inner : List ℕ) → SealsOf P inner
  seals_all wires inner = record {
    seals = λ n x c here is.
        sealed_as_kept wires n x (packets.sealed_to inner x.session).peer (packets.sealed_to inner x.session).answer c here (sealed_call inner x.session) is;
  }

  -- an event that brings no inner packet and takes none
  pub came_quietly : (lacks : Bool) (draw : Draw) (kind : Kind) (c : Course) → IsQuiet kind → P c → P (came lacks draw kind c)
  unfolding came
  came_quietly lacks draw (EngineText conn bytes) c quiet is = engine_answered_kept closed draw conn (EngineText conn bytes) c is
  came_quietly lacks draw (EnginePlain conn bytes) c quiet is = engine_answered_kept closed draw conn (EnginePlain conn bytes) c is
  came_quietly lacks draw (EngineUp conn name) c quiet is = engine_answered_kept closed draw conn (EngineUp conn name) c is
  came_quietly lacks draw (EngineDown conn) c quiet is = down_kept closed conn c is
  came_quietly lacks draw (File id answer) c quiet is = file_came_kept closed draw id answer c is
  came_quietly lacks draw (Line bytes) c quiet is = line_kept closed bytes c is
  came_quietly lacks draw Halt c quiet is = halted_kept closed c is
  came_quietly lacks draw (Datagram from bytes) c quiet is = elim quiet [ ]
  came_quietly lacks draw (DeviceIn bytes) c quiet is = elim quiet [ ]
  came_quietly lacks draw DeviceReady c quiet is = elim quiet [ ]
  came_quietly lacks draw Tick c quiet is = elim quiet [ ]

  module _ (deals : DealsWith P) where
    -- an event that is no datagram
    pub came_apart : (lacks : Bool) (draw : Draw) (kind : Kind) (c : Course) → IsApart kind → P c → P (came lacks draw kind c)
    unfolding came
    came_apart lacks draw (Datagram from bytes) c apart is = elim apart [ ]
    came_apart lacks draw (DeviceIn bytes) c apart is = device_came_kept closed deals bytes c is
    came_apart lacks draw DeviceReady c apart is = device_ready_kept closed deals c is
    came_apart lacks draw Tick c apart is = tick_course_kept closed (deals.seals ping) c is
    came_apart lacks draw (EngineText conn bytes) c apart is = engine_answered_kept closed draw conn (EngineText conn bytes) c is
    came_apart lacks draw (EnginePlain conn bytes) c apart is = engine_answered_kept closed draw conn (EnginePlain conn bytes) c is
    came_apart lacks draw (EngineUp conn name) c apart is = engine_answered_kept closed draw conn (EngineUp conn name) c is
    came_apart lacks draw (EngineDown conn) c apart is = down_kept closed conn c is
    came_apart lacks draw (File id answer) c apart is = file_came_kept closed draw id answer c is
    came_apart lacks draw (Line bytes) c apart is = line_kept closed bytes c is
    came_apart lacks draw Halt c apart is = halted_kept closed c is

    module _ (goes : Goes P) where
      datagram_kept : (d : FromWire) (draw : Draw) (c : Course) (p : Result PacketForm Malformed) → P c → P (datagram_as d draw c p)
      datagram_kept d draw c (Err e) is = reported_kept closed (notes.Malformed e (first_of d.bytes)) c is
      datagram_kept d draw c (Ok (Wrapped op kid sid)) is = arrived_kept closed goes d draw op c is
      datagram_kept d draw c (Ok (Inner f)) is = data_course_kept closed deals goes d f c is

      -- any event
      pub came_kept : (lacks : Bool) (draw : Draw) (kind : Kind) (c : Course) → P c → P (came lacks draw kind c)
      unfolding came
      came_kept lacks draw (Datagram from bytes) c is = datagram_kept (record { from = from; bytes = bytes; lacks = lacks }) draw c (packet_of bytes) is
      came_kept lacks draw kind c is = came_apart lacks draw kind c tt is
