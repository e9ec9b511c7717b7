-- HMAC (RFC 2104) over a hash function on lists of bytes.
use Rattle.std.specs.Prelude.{ℕ, ◌-◌, nat_lt, List, ◌++◌, length, map, replicate, bit_xor, if◌then◌else◌}
use Rattle.md5.specs.Md5.{md5}
use Rattle.sha1.specs.Sha1.{sha1}
use Rattle.sha2.specs.Sha256.{sha256}

-- the length in bytes of the blocks that MD5, SHA-1 and SHA-256 work on (RFC 2104, 2)
abbrev pub block_size : ℕ
block_size = 64

-- the key of at most a block: a longer one is hashed (RFC 2104, 2 and 3)
abbrev pub short_key : (List ℕ → List ℕ) → List ℕ → List ℕ
short_key hash key = if nat_lt block_size (length key) then hash key else key

-- a key with zeros behind it up to the length of a block (RFC 2104, 2, step 1)
abbrev pub padded_key : List ℕ → List ℕ
padded_key key = key ++ replicate (block_size - length key) 0

-- the padded key with each byte xored with ipad, 0x36, or opad, 0x5c (RFC 2104, 2, steps 2 and 5)
unfoldable pub masked_key : (List ℕ → List ℕ) → ℕ → List ℕ → List ℕ
masked_key hash pad key = map (λ byte. bit_xor byte pad) (padded_key (short_key hash key))

-- H(K xor opad, H(K xor ipad, text)) (RFC 2104, 2)
unfoldable pub hmac : (List ℕ → List ℕ) → List ℕ → List ℕ → List ℕ
hmac hash key text = hash (masked_key hash 0x5c key ++ hash (masked_key hash 0x36 key ++ text))

-- HMAC-MD5 (RFC 2202, 2)
abbrev pub hmac_md5 : List ℕ → List ℕ → List ℕ
hmac_md5 = hmac md5

-- HMAC-SHA1 (RFC 2202, 3)
abbrev pub hmac_sha1 : List ℕ → List ℕ → List ℕ
hmac_sha1 = hmac sha1

-- HMAC-SHA-256 (RFC 4231)
abbrev pub hmac_sha256 : List ℕ → List ℕ → List ℕ
hmac_sha256 = hmac sha256
