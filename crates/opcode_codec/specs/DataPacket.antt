-- Data packets (OpenVPN 2.6, src/openvpn/ssl.c, tls_prepend_opcode_v2, and crypto.c, openvpn_encrypt_aead).
use Rattle.std.specs.Prelude.{◌≡◌, ℕ, ◌+◌, ◌/◌, ◌%◌, ◌^◌, ◌<◌, List, [], ◌∷◌, ◌++◌, length, take, drop}
use Rattle.std.specs.Int.{w32, to_be_bytes, from_be_bytes}
use Rattle.opcode_codec.specs.declared.packets.DataView.{DataView}

-- a data packet without where it lies in memory
pub record DataForm : Type 0 where
  pub kid : ℕ
  pub peer : ℕ
  pub id : ℕ
  pub tag : List ℕ
  pub sealed : List ℕ

-- what has a spelling
pub record IsData (f : DataForm) : Type 0 where
  pub kid : f.kid < 8
  pub peer : f.peer < 2 ^ 24
  pub id : f.id < 2 ^ 32
  pub tag : length f.tag ≡ 16

-- what a view shows
abbrev pub data_form : DataView → DataForm
data_form v = record { kid = v.kid; peer = v.peer; id = v.id; tag = v.tag; sealed = v.sealed.now }

-- a number in three bytes, the highest first
abbrev pub three_bytes : ℕ → List ℕ
three_bytes n = n / 2 ^ 16 ∷ n / 2 ^ 8 % 2 ^ 8 ∷ n % 2 ^ 8 ∷ []

-- opcode 9 and the key id, then the peer id, then the packet id
unfoldable pub data_head : ℕ → ℕ → ℕ → List ℕ
data_head kid peer id = (72 + kid) ∷ three_bytes peer ++ to_be_bytes w32 id

-- the head, then the tag, then the sealed bytes
unfoldable pub data_packet : DataForm → List ℕ
data_packet f = data_head f.kid f.peer f.id ++ f.tag ++ f.sealed

-- the fields of a data packet: its key id, and the bytes behind the first
abbrev pub data_of : ℕ → List ℕ → DataForm
data_of kid rest = record {
  kid = kid;
  peer = from_be_bytes w32 (0 ∷ take 3 rest);
  id = from_be_bytes w32 (take 4 (drop 3 rest));
  tag = take 16 (drop 7 rest);
  sealed = drop 23 rest;
}
