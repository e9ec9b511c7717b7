use Rattle.std.proofs.Common.{◌≡◌, ◌≤◌, length}
use Rattle.client_table.specs.Tables.{entries_of}
use Rattle.opcode_codec.specs.Packet.{packet_form}
use Rattle.server_core.proofs.Sent.{NoneSent}
use Rattle.server_core.proofs.senders.first_sent.Given as goal

-- no client before this place may have sent it
abbrev pub invariant-loop-i : goal.invariant-loop-i
invariant-loop-i g l =
    (l.i ≤ l.i-end) × (l.i-end ≡ length (entries_of l.core.clients)) × NoneSent g.S.ClientSession.stands l.to (packet_form l.packet) l.i (entries_of l.core.clients)
