-- Which bytes are which packet (OpenVPN 2.6, src/openvpn/ssl_pkt.h and tls_crypt.h).
use Rattle.std.specs.Prelude.{◌≡◌, ◌≢◌, ℕ, ◌%◌, ◌<◌, ◌≤◌, nat_lt, List, [], ◌∷◌, ◌++◌, length, take, Option, Some, None, Result, Ok, Err, if◌then◌else◌}
use Rattle.std.specs.Int.{w32, to_be_bytes}
use Rattle.vpn_base.specs.declared.names.Sid.{Sid}
use Rattle.vpn_base.specs.declared.names.Malformed.{Malformed}
use Rattle.vpn_base.specs.declared.names.Malformed.TheVariants as faults
use Rattle.opcode_codec.specs.declared.opcodes.Opcode.{Opcode}
use Rattle.opcode_codec.specs.declared.opcodes.Opcode.TheVariants.{DataV2}
use Rattle.opcode_codec.specs.declared.packets.Packet.{Packet}
use Rattle.opcode_codec.specs.declared.packets.Packet.TheVariants as packets
use Rattle.opcode_codec.specs.FirstByte.{first_byte, opcode_of}
use Rattle.opcode_codec.specs.DataPacket.{DataForm, IsData, data_form, data_of, data_packet}

-- a wrapped control packet: the last four fields are those of the wrapping
pub record WrappedForm : Type 0 where
  pub op : Opcode
  pub kid : ℕ
  pub sid : Sid
  pub id : ℕ
  pub time : ℕ
  pub tag : List ℕ
  pub ciphertext : List ℕ

-- opcodes of control packets
abbrev pub IsControl : Opcode → Type 0
IsControl op = op ≢ DataV2

-- what has a spelling
pub record IsWrapped (w : WrappedForm) : Type 0 where
  pub op : IsControl w.op
  pub kid : w.kid < 8
  pub sid : length w.sid.0 ≡ 8
  pub tag : length w.tag ≡ 32

-- first byte, session id, wrap id, time, tag, ciphertext
unfoldable pub wrapped_packet : WrappedForm → List ℕ
wrapped_packet w =
    first_byte w.op w.kid ∷ w.sid.0 ++ to_be_bytes w32 w.id ++ to_be_bytes w32 w.time ++ w.tag ++ w.ciphertext

-- a packet without where it lies in memory
pub data PacketForm : Type 0 where
  Wrapped : Opcode → ℕ → Sid → PacketForm
  Inner : DataForm → PacketForm

-- a data packet as a packet
abbrev pub data_packet_form : DataForm → PacketForm
data_packet_form f = Inner f

-- what is read of a wrapped control packet: the rest is for the unwrapping
abbrev pub wrapped_packet_form : WrappedForm → PacketForm
wrapped_packet_form w = Wrapped w.op w.kid w.sid

-- what a packet shows
abbrev pub packet_form : Packet → PacketForm
packet_form (packets.Wrapped op kid sid) = Wrapped op kid sid
packet_form (packets.Inner view) = Inner (data_form view)

-- what was answered, without where it lies in memory
abbrev pub seen : Result Packet Malformed → Result PacketForm Malformed
seen (Ok p) = Ok (packet_form p)
seen (Err e) = Err e

-- the fewest bytes of a packet of this opcode
abbrev pub shortest : Opcode → ℕ
shortest DataV2 = 24
shortest op = 49

-- the packet of this opcode, by its first byte and the bytes behind it
abbrev pub form_behind : Opcode → ℕ → List ℕ → PacketForm
form_behind DataV2 first rest = Inner (data_of (first % 8) rest)
form_behind op first rest = Wrapped op (first % 8) (record { 0 = take 8 rest })

-- the same where the opcode is served and enough bytes are there
abbrev pub packet_with : Option Opcode → ℕ → List ℕ → Result PacketForm Malformed
packet_with None first rest = Err (faults.Opcode first)
packet_with (Some op) first rest =
    if nat_lt (length (first ∷ rest)) (shortest op) then Err faults.Short else Ok (form_behind op first rest)

-- the packet that the bytes are, or why they are none
unfoldable pub packet_of : List ℕ → Result PacketForm Malformed
packet_of [] = Err faults.Empty
packet_of (first ∷ rest) = packet_with (opcode_of first) first rest

-- the first byte is this one
abbrev pub BeginsWith : ℕ → List ℕ → Type 0
BeginsWith first bytes = take 1 bytes ≡ first ∷ []

-- the opcode is served, and fewer bytes are there than such a packet has
abbrev pub IsCutBehind : Option Opcode → ℕ → Type 0
IsCutBehind None n = ⊥
IsCutBehind (Some op) n = n < shortest op

-- the bytes begin a packet and end before it is whole
abbrev pub IsCut : List ℕ → Type 0
IsCut [] = ⊥
IsCut (first ∷ rest) = IsCutBehind (opcode_of first) (length (first ∷ rest))

-- the bytes are this packet: all of them for a data packet, and of a control packet the first nine, before the wrapping
abbrev pub IsSpelled : Packet → List ℕ → Type 0
IsSpelled (packets.Wrapped op kid sid) bytes =
    IsControl op × (kid < 8) × (take 9 bytes ≡ first_byte op kid ∷ sid.0) × (49 ≤ length bytes)
IsSpelled (packets.Inner view) bytes = IsData (data_form view) × (bytes ≡ data_packet (data_form view))
