-- The first byte of a packet (OpenVPN 2.6, src/openvpn/ssl_pkt.h).
use Rattle.std.specs.Prelude.{ℕ, ◌+◌, ◌*◌, ◌/◌, ◌==◌, Option, Some, None, if◌then◌else◌}
use Rattle.opcode_codec.specs.declared.opcodes.Opcode.{Opcode}
use Rattle.opcode_codec.specs.declared.opcodes.Opcode.TheVariants.{SoftReset, Control, Ack, ClientReset, ServerReset, DataV2}

-- the number of an opcode
abbrev pub code : Opcode → ℕ
code SoftReset = 3
code Control = 4
code Ack = 5
code ClientReset = 7
code ServerReset = 8
code DataV2 = 9

-- the opcode in the high 5 bits, and the key id in the low 3
abbrev pub first_byte : Opcode → ℕ → ℕ
first_byte op kid = 8 * code op + kid

-- the opcode of a number, if it is one that is served
abbrev pub opcode_numbered : ℕ → Option Opcode
opcode_numbered n =
    if n == 3 then Some SoftReset
    else if n == 4 then Some Control
    else if n == 5 then Some Ack
    else if n == 7 then Some ClientReset
    else if n == 8 then Some ServerReset
    else if n == 9 then Some DataV2
    else None

-- the opcode of a first byte
abbrev pub opcode_of : ℕ → Option Opcode
opcode_of first = opcode_numbered (first / 8)
