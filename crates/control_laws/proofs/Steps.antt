-- What a step keeps.
use Rattle.std.proofs.Common.{◌≡◌, ℕ, Bool, true, false, List, [], ◌∷◌, length, map, None, refl, nat_lt, Result, Ok, Err}
use Rattle.std.specs.Prelude.{codes}
use Rattle.vpn_base.specs.declared.address.Addr.{Addr}
use Rattle.vpn_base.specs.declared.names.Draw.{Draw}
use Rattle.vpn_base.specs.declared.names.Malformed.{Malformed}
use Rattle.vpn_links.specs.Actions.{Report, Say, Stop, on_wire}
use Rattle.vpn_links.specs.declared.events.Event.{Event}
use Rattle.vpn_links.specs.declared.events.Kind.{Kind}
use Rattle.vpn_links.specs.declared.events.Kind.TheVariants.{Datagram, EngineText, EnginePlain, EngineUp, EngineDown, DeviceIn, DeviceReady, File, Tick, Halt}
use Rattle.vpn_links.specs.declared.events.Kind.TheVariants as kinds
use Rattle.vpn_links.specs.declared.notes.Note.TheVariants as notes
use Rattle.opcode_codec.specs.declared.opcodes.Opcode.{Opcode}
use Rattle.opcode_codec.specs.Packet.{PacketForm, Wrapped, Inner, packet_of}
use Rattle.inner_verdict.specs.declared.Verdict.{Verdict}
use Rattle.inner_verdict.specs.declared.Verdict.TheVariants.{NotIp, TooLong, Multicast, BadSource, ToClient, ToDevice, NoRoute}
use Rattle.inner_verdict.specs.Verdict.{verdict}
use Rattle.reliable_recv.specs.Receiving.{Arrival, begun}
use Rattle.control_link.specs.Reading.{IsReadUp}
use Rattle.server_table.specs.Table.{Table}
use Rattle.server_table.specs.Courses.{Course, Staged, outs}
use Rattle.server_table.specs.ControlDatagrams.{ControlPacket, first_of}
use Rattle.server_table.specs.DataDatagrams.{FromWire}
use Rattle.server_table.specs.Step.{came, course_begun, datagram_as, device_came, device_passed, is_over, line_came, line_said, step, step_if}
use Rattle.control_laws.specs.Tests.{IsControlPacket}
use Rattle.control_laws.specs.internal.LinkReads.{LinkReads}
use Rattle.control_laws.proofs.Actions.{are_quiet}
use Rattle.control_laws.proofs.Lines.{lines_of}
use Rattle.control_laws.proofs.Kept.{Before, Kept, KeptParts, quiet_kept}
use Rattle.control_laws.proofs.Keeps.{did_kept}
use Rattle.control_laws.proofs.KeptControl.{GoesThere, Told, control_kept}
use Rattle.control_laws.proofs.KeptData.{data_kept}
use Rattle.control_laws.proofs.KeptEngine.{down_kept, engine_kept, file_kept}
use Rattle.control_laws.proofs.KeptPackets.{device_ready_kept, sealed_kept}
use Rattle.control_laws.proofs.KeptTime.{tick_kept}

-- the control datagrams of a step put and open nothing
staged_quiet : (staged : List Staged) → are_quiet (map (λ (s : Staged). on_wire s.datagram) staged) ≡ true
staged_quiet [] = refl
staged_quiet (s ∷ staged) = staged_quiet staged

-- what a control packet of an event carries is brought to the session that it goes to
abbrev pub Tells : (ℕ → ℕ → Arrival → Type 0) → List ℕ → Table → Kind → Type 0
Tells brought static t kind = (from : Addr) (op : Opcode) (r : ControlPacket) → IsControlPacket static kind from op r → GoesThere brought t from op r

module _ (reads : LinkReads) (up : IsReadUp begun) {brought : ℕ → ℕ → Arrival → Type 0} {base : Before} where
  datagram_kept : (d : FromWire) (draw : Draw) (c : Course) (p : Result PacketForm Malformed) → packet_of d.bytes ≡ p → Told brought base.static c.table d →
      Kept brought base c → Kept brought base (datagram_as d draw c p)
  datagram_kept d draw c (Err e) outer told is = did_kept (Report (notes.Malformed e (first_of d.bytes))) c refl is
  datagram_kept d draw c (Ok (Wrapped op kid sid)) outer told is = control_kept reads up d draw op kid sid c outer told is
  datagram_kept d draw c (Ok (Inner f)) outer told is = data_kept d f c is

  passed_kept : (inner : List ℕ) (c : Course) (v : Verdict) → Kept brought base c → Kept brought base (device_passed inner c v)
  passed_kept inner c NotIp is = did_kept (Report (notes.NotIp None)) c refl is
  passed_kept inner c TooLong is = did_kept (Report (notes.TooLong None)) c refl is
  passed_kept inner c Multicast is = did_kept (Report (notes.Multicast None)) c refl is
  passed_kept inner c (BadSource owner) is = is
  passed_kept inner c (ToClient target) is = sealed_kept target.0 inner c is
  passed_kept inner c ToDevice is = is
  passed_kept inner c NoRoute is = did_kept (Report notes.NoRoute) c refl is

  device_kept : (inner : List ℕ) (c : Course) → Kept brought base c → Kept brought base (device_came inner c)
  unfolding device_came
  device_kept inner c is = passed_kept inner c (verdict c.table.routes.rows c.table.settings.net c.table.settings.between None inner) is

  said_kept : (c : Course) (b : Bool) → Kept brought base c → Kept brought base (line_said c b)
  said_kept c true is = did_kept (Say (codes "ERROR: command too long")) c refl is
  said_kept c false is = did_kept (Say (codes "ERROR: unknown command")) c refl is

  line_kept : (bytes : List ℕ) (c : Course) → Kept brought base c → Kept brought base (line_came bytes c)
  line_kept [] c is = is
  line_kept (b ∷ bytes) c is = said_kept c (nat_lt 256 (length (b ∷ bytes))) is

  came_kept : (lacks : Bool) (draw : Draw) (kind : Kind) (c : Course) → Tells brought base.static c.table kind → Kept brought base c → Kept brought base (came lacks draw kind c)
  unfolding came
  came_kept lacks draw (Datagram from bytes) c tells is =
      datagram_kept (record { from = from; bytes = bytes; lacks = lacks }) draw c (packet_of bytes) refl (λ op r packet. tells from op r packet) is
  came_kept lacks draw (EngineText conn bytes) c tells is = engine_kept draw conn (EngineText conn bytes) c is
  came_kept lacks draw (EnginePlain conn bytes) c tells is = engine_kept draw conn (EnginePlain conn bytes) c is
  came_kept lacks draw (EngineUp conn name) c tells is = engine_kept draw conn (EngineUp conn name) c is
  came_kept lacks draw (EngineDown conn) c tells is = down_kept conn c is
  came_kept lacks draw (DeviceIn bytes) c tells is = device_kept bytes c is
  came_kept lacks draw DeviceReady c tells is = device_ready_kept c is
  came_kept lacks draw (File id answer) c tells is = file_kept draw id answer c is
  came_kept lacks draw (kinds.Line bytes) c tells is = line_kept bytes c is
  came_kept lacks draw Tick c tells is = tick_kept up c is
  came_kept lacks draw Halt c tells is = quiet_kept (Stop ∷ []) refl is

  step_if_kept : (lacks : Bool) (t : Table) (event : Event) (b : Bool) → is_over t ≡ b →
      (is_over t ≡ false → Tells brought base.static (course_begun t event).table event.kind) →
      KeptParts brought base t.key t.connections (lines_of t.clients) [] → Kept brought base (step_if lacks t event b)
  step_if_kept lacks t event true over tells is = is
  step_if_kept lacks t event false goes tells is = came_kept lacks event.draw event.kind (course_begun t event) (tells goes) is

  -- a step, with the control datagrams behind its effects
  pub step_kept : (lacks : Bool) (t : Table) (event : Event) → (is_over t ≡ false → Tells brought base.static (course_begun t event).table event.kind) →
      KeptParts brought base t.key t.connections (lines_of t.clients) [] →
      KeptParts brought base (step lacks t event).table.key (step lacks t event).table.connections (lines_of (step lacks t event).table.clients) (outs (step lacks t event))
  unfolding step
  step_kept lacks t event tells is =
      let c = step_if lacks t event (is_over t) in
      quiet_kept (map (λ (s : Staged). on_wire s.datagram) c.staged) (staged_quiet c.staged) (step_if_kept lacks t event (is_over t) refl tells is)
