-- The wrapped control packet (OpenVPN 2.6, src/openvpn/tls_crypt.h, "Control channel encryption").
use Rattle.std.specs.Prelude.{ℕ, ◌*◌, List, ◌∷◌, ◌++◌, length, take, drop}
use Rattle.std.specs.Int.{w32, to_be_bytes}
use Rattle.vpn_base.specs.declared.names.Role.{Role}
use Rattle.vpn_base.specs.declared.names.Role.TheVariants.{Server, Client}
use Rattle.aes_core.specs.Field.{xor_bytes}
use Rattle.aes_core.specs.CounterMode.{key_stream}
use Rattle.hmac_kit.specs.Hmac.{hmac_sha256}

-- the keys of one direction: Ke for AES-256-CTR and Ka for HMAC-SHA256, 32 bytes each
pub record Keys : Type 0 where
  pub cipher : List ℕ
  pub hmac : List ℕ

-- half 0 or 1 of a static key, 128 bytes each (openvpn(8), --secret: a key of 2048 bits for two directions)
abbrev pub half : List ℕ → ℕ → List ℕ
half key number = take 128 (drop (128 * number) key)

-- the keys in a half: the first 32 of its 64 cipher bytes, and the first 32 of its 64 HMAC bytes
abbrev pub keys_of : List ℕ → Keys
keys_of half = record { cipher = take 32 half; hmac = take 32 (drop 64 half) }

-- the half under which this end wraps: half 0 at the server, half 1 at the client
abbrev pub written_half : Role → ℕ
written_half Server = 0
written_half Client = 1

-- the half under which this end unwraps, which is the half under which the other end wraps
abbrev pub read_half : Role → ℕ
read_half Server = 1
read_half Client = 0

-- the 17 bytes in front of the tag: first byte, session id, wrap id and time, with numbers big-endian
unfoldable pub header : ℕ → List ℕ → ℕ → ℕ → List ℕ
header first sid id time = first ∷ sid ++ to_be_bytes w32 id ++ to_be_bytes w32 time

-- the tag, 32 bytes: HMAC-SHA256 under Ka of the header and the plain text (RFC 2104)
unfoldable pub tag : Keys → List ℕ → List ℕ → List ℕ
tag keys front plain = hmac_sha256 keys.hmac (front ++ plain)

-- the cipher text: AES-256-CTR under Ke, with the first 16 bytes of the tag as the first counter block
-- (SP 800-38A, 6.5)
unfoldable pub cipher_text : Keys → List ℕ → List ℕ → List ℕ
cipher_text keys mac plain = xor_bytes plain (key_stream keys.cipher (take 16 mac) (length plain))

-- a header, the tag and the cipher text
unfoldable pub datagram : Keys → List ℕ → List ℕ → List ℕ
datagram keys front plain = front ++ tag keys front plain ++ cipher_text keys (tag keys front plain) plain

-- the datagram that a control packet is wrapped to: its header, the tag and the cipher text
abbrev pub wrapped : Keys → ℕ → List ℕ → ℕ → ℕ → List ℕ → List ℕ
wrapped keys first sid id time plain = datagram keys (header first sid id time) plain
