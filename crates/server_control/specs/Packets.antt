-- Control packets as handlers get them.
use Rattle.std.specs.Prelude.{ℕ, ◌≤◌, length}
use Rattle.vpn_links.specs.declared.events.Kind.{Kind}
use Rattle.vpn_links.specs.declared.events.Kind.TheVariants.{Datagram}
use Rattle.opcode_codec.specs.ControlText.{control_form}
use Rattle.opcode_codec.specs.declared.control.ControlView.{ControlView}
use Rattle.tls_crypt.specs.Packets.{Packet}
use Rattle.tls_crypt.specs.declared.wrapping.Opened.{Opened}
use Rattle.server_table.specs.ControlDatagrams.{ControlPacket}

-- a control packet that was unwrapped
abbrev pub opened_packet : Opened → Packet
opened_packet o = record { first = o.first; sid = o.sid.0; id = o.id; time = o.time; plain = o.plain.now }

-- the same with what its plain text says
abbrev pub packet_of : Opened → ControlView → ControlPacket
packet_of o v = record { packet = opened_packet o; form = control_form v }

-- a datagram with at least so many bytes
abbrev pub HasBytes : Kind → ℕ → Type 0
HasBytes (Datagram from bytes) n = n ≤ length bytes
HasBytes kind n = ⊥
