-- The fields of a data packet that are not sealed, with those around them.
use Rattle.std.specs.Prelude.{ℕ, List}
use Rattle.opcode_codec.specs.DataPacket.{DataForm}
use Rattle.sealed_packet.specs.declared.head.Head.{Head}

-- with a key id and a cipher text
abbrev pub data_form_of : ℕ → Head → List ℕ → DataForm
data_form_of kid h text = record { kid = kid; peer = h.peer; id = h.id; tag = h.tag; sealed = text }
