-- Data packets under authenticated encryption (OpenVPN wire protocol, P_DATA_V2).
use Rattle.std.specs.Prelude.{◌≡◌, ℕ, ◌^◌, ◌<◌, List, ◌∷◌, ◌++◌, take, drop}
use Rattle.std.specs.Int.{w32, to_be_bytes, from_be_bytes}
use Rattle.gcm_seal.specs.Sealed.{Sealed}
use Rattle.opcode_codec.specs.DataPacket.{DataForm, data_head, data_packet}

-- what seals: a nonce, additional data and a plain text to a cipher text and a tag
abbrev pub Sealing : Type 0
Sealing = List ℕ → List ℕ → List ℕ → Sealed

-- the nonce: the packet id, then the implicit bytes of the key
abbrev pub nonce : List ℕ → ℕ → List ℕ
nonce implicit id = to_be_bytes w32 id ++ implicit

-- the inner packet, sealed under the nonce of the packet id, with the head as additional data
abbrev pub sealed_inner : Sealing → List ℕ → ℕ → ℕ → ℕ → List ℕ → Sealed
sealed_inner sealed implicit kid peer id inner = sealed (nonce implicit id) (data_head kid peer id) inner

-- a data packet with this tag and this cipher text
abbrev pub form : ℕ → ℕ → ℕ → Sealed → DataForm
form kid peer id s = record { kid = kid; peer = peer; id = id; tag = s.tag; sealed = s.text }

-- the packet: first byte, peer id, packet id, tag, cipher text
unfoldable pub packet : Sealing → List ℕ → ℕ → ℕ → ℕ → List ℕ → List ℕ
packet sealed implicit kid peer id inner =
    data_packet (form kid peer id (sealed_inner sealed implicit kid peer id inner))

-- the peer id that stands in a data packet, behind the first byte
abbrev pub peer_in : List ℕ → ℕ
peer_in datagram = from_be_bytes w32 (0 ∷ take 3 (drop 1 datagram))

-- the packet id that stands in a data packet, behind the peer id
abbrev pub id_in : List ℕ → ℕ
id_in datagram = from_be_bytes w32 (take 4 (drop 4 datagram))

-- the datagram is the packet of this inner packet under this packet id, for the peer id that stands in it
pub record Opens (sealed : Sealing) (implicit : List ℕ) (kid : ℕ) (datagram : List ℕ) (id : ℕ) (inner : List ℕ) : Type 0 where
  pub peer_fits : peer_in datagram < 2 ^ 24
  pub id_fits : id < 2 ^ 32
  pub is_packet : datagram ≡ packet sealed implicit kid (peer_in datagram) id inner
