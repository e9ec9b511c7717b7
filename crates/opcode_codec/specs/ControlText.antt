-- The plain text of a control packet (OpenVPN 2.6, src/openvpn/reliable.c, reliable_ack_parse and reliable_ack_write).
use Rattle.std.specs.Prelude.{◌≡◌, ◌⊎◌, ℕ, zero, suc, ◌+◌, ◌*◌, ◌^◌, ◌<◌, ◌≤◌, ◌==◌, nat_lt, List, [], ◌∷◌, ◌++◌, length, take, drop, Option, Some, None, Result, Ok, Err, if◌then◌else◌}
use Rattle.std.specs.List.{flat_map, AllByRecursion}
use Rattle.std.specs.Int.{w32, to_be_bytes, from_be_bytes}
use Rattle.vpn_base.specs.declared.names.Sid.{Sid}
use Rattle.vpn_base.specs.declared.names.Acks.{Acks}
use Rattle.vpn_base.specs.Acks.{acked}
use Rattle.vpn_base.specs.declared.names.Malformed.{Malformed}
use Rattle.vpn_base.specs.declared.names.Malformed.TheVariants as faults
use Rattle.opcode_codec.specs.declared.opcodes.Opcode.{Opcode}
use Rattle.opcode_codec.specs.declared.opcodes.Opcode.TheVariants.{Ack}
use Rattle.opcode_codec.specs.declared.control.ControlView.{ControlView}

-- the text by its fields: the acknowledged ids, the receiver's session id, the packet id, the payload
pub record ControlForm : Type 0 where
  pub ids : List ℕ
  pub remote : Option Sid
  pub id : Option ℕ
  pub payload : List ℕ

-- what a view shows
abbrev pub control_form : ControlView → ControlForm
control_form v = record { ids = acked v.acks; remote = v.remote; id = v.id; payload = v.payload.now }

-- ---- spelling

-- the eight bytes of a session id, if there is one
abbrev pub sid_bytes : Option Sid → List ℕ
sid_bytes None = []
sid_bytes (Some sid) = sid.0

-- the four bytes of a packet id, if there is one
abbrev pub id_bytes : Option ℕ → List ℕ
id_bytes None = []
id_bytes (Some id) = to_be_bytes w32 id

-- how many ids, the ids, the receiver's session id if there is one, the packet id if there is one, the payload
unfoldable pub control_text : ControlForm → List ℕ
control_text f = length f.ids ∷ flat_map (to_be_bytes w32) f.ids ++ sid_bytes f.remote ++ id_bytes f.id ++ f.payload

-- the receiver's session id stands exactly behind acknowledgements
abbrev pub IsRemote : List ℕ → Option Sid → Type 0
IsRemote [] None = Unit {0}
IsRemote [] (Some sid) = ⊥
IsRemote (id ∷ ids) None = ⊥
IsRemote (id ∷ ids) (Some sid) = length sid.0 ≡ 8

-- ACK_V1 has neither packet id nor payload, and all others have both
abbrev pub AreFields : Opcode → Option ℕ → List ℕ → Type 0
AreFields Ack None payload = payload ≡ []
AreFields Ack (Some id) payload = ⊥
AreFields op None payload = ⊥
AreFields op (Some id) payload = id < 2 ^ 32

-- what has a spelling
pub record IsControlText (op : Opcode) (f : ControlForm) : Type 0 where
  pub count : length f.ids ≤ 8
  pub ids : AllByRecursion (λ id. id < 2 ^ 32) f.ids
  pub remote : IsRemote f.ids f.remote
  pub fields : AreFields op f.id f.payload

-- bytes after the last field of ACK_V1 are ignored; with all others the payload goes to the end
abbrev pub MayFollow : Opcode → List ℕ → Type 0
MayFollow Ack rest = Unit {0}
MayFollow op rest = rest ≡ []

-- the bytes are this text, and then what may follow it
pub record IsTextOf (op : Opcode) (f : ControlForm) (bytes : List ℕ) : Type 0 where
  pub fits : IsControlText op f
  pub rest : List ℕ
  pub follows : MayFollow op rest
  pub spelled : bytes ≡ control_text f ++ rest

-- ---- reading

-- the first n numbers of four bytes
unfoldable pub numbers_at : ℕ → List ℕ → List ℕ
numbers_at zero bytes = []
numbers_at (suc n) bytes = from_be_bytes w32 (take 4 bytes) ∷ numbers_at n (drop 4 bytes)

-- the packet id and the payload, where the opcode has them
unfoldable pub fields_at : Opcode → List ℕ → Option Sid → List ℕ → Result ControlForm Malformed
fields_at Ack ids remote bytes = Ok (record { ids = ids; remote = remote; id = None; payload = [] })
fields_at op ids remote bytes =
    if nat_lt (length bytes) 4 then Err faults.Short
    else Ok (record { ids = ids; remote = remote; id = Some (from_be_bytes w32 (take 4 bytes)); payload = drop 4 bytes })

-- the receiver's session id, where ids are acknowledged, and what is behind it
unfoldable pub behind_ids : Opcode → ℕ → List ℕ → List ℕ → Result ControlForm Malformed
behind_ids op count ids bytes =
    if count == 0 then fields_at op ids None bytes
    else if nat_lt (length bytes) 8 then Err faults.NoRemote
    else fields_at op ids (Some (record { 0 = take 8 bytes })) (drop 8 bytes)

-- the text that the bytes are, or why they are none
unfoldable pub control_of : Opcode → List ℕ → Result ControlForm Malformed
control_of op [] = Err faults.Short
control_of op (count ∷ rest) =
    if nat_lt 8 count then Err faults.Acks
    else if nat_lt (length rest) (4 * count) then Err faults.Short
    else behind_ids op count (numbers_at count rest) (drop (4 * count) rest)

-- what was answered, without where it lies in memory
abbrev pub seen_control : Result ControlView Malformed → Result ControlForm Malformed
seen_control (Ok v) = Ok (control_form v)
seen_control (Err e) = Err e

-- ---- errors

-- more than 8 ids are acknowledged
abbrev pub HasManyAcks : List ℕ → Type 0
HasManyAcks [] = ⊥
HasManyAcks (count ∷ rest) = 8 < count

-- how many bytes the receiver's session id has behind so many ids
abbrev pub remote_length : ℕ → ℕ
remote_length zero = 0
remote_length (suc n) = 8

-- how many bytes the packet id has
abbrev pub id_length : Opcode → ℕ
id_length Ack = 0
id_length op = 4

-- the ids are there, and the receiver's session id is cut off
abbrev pub LacksRemote : List ℕ → Type 0
LacksRemote [] = ⊥
LacksRemote (count ∷ rest) = (count ≤ 8) × (4 * count ≤ length rest) × (length rest < 4 * count + remote_length count)

-- the count, the ids or the packet id is cut off
abbrev pub IsCutOff : Opcode → List ℕ → Type 0
IsCutOff op [] = Unit {0}
IsCutOff op (count ∷ rest) = (count ≤ 8) × ((length rest < 4 * count)
    ⊎ ((4 * count + remote_length count ≤ length rest) × (length rest < 4 * count + remote_length count + id_length op)))

-- ---- writing

-- the receiver's session id, where ids are acknowledged
abbrev pub sent_remote : ℕ → Sid → Option Sid
sent_remote count remote = if count == 0 then None else Some remote

-- the packet id, where the opcode has one
abbrev pub sent_id : Opcode → ℕ → Option ℕ
sent_id Ack id = None
sent_id op id = Some id

-- the payload, where the opcode has one
abbrev pub sent_payload : Opcode → List ℕ → List ℕ
sent_payload Ack payload = []
sent_payload op payload = payload

-- what is written of these values
abbrev pub sent_form : Opcode → Acks → Sid → ℕ → List ℕ → ControlForm
sent_form op acks remote id payload =
    record { ids = acked acks; remote = sent_remote acks.count remote; id = sent_id op id; payload = sent_payload op payload }

-- a buffer with these bytes at its front
abbrev pub with_front : List ℕ → List ℕ → List ℕ
with_front text buffer = text ++ drop (length text) buffer
