-- GCM over AES, with an initialization vector of 96 bits and a tag of 128 (NIST SP 800-38D).
use Rattle.std.specs.Prelude.{ℕ, zero, suc, ◌+◌, ◌*◌, ◌%◌, ◌^◌, List, [], ◌∷◌, ◌++◌, length, take, drop, replicate}
use Rattle.std.specs.Int.{w32, w64, w128, div_ceil, from_be_bytes, to_be_bytes}
use Rattle.aes_core.specs.Cipher.{cipher}
use Rattle.aes_core.specs.Field.{xor_bytes}
use Rattle.ghash_core.specs.Ghash.{element, ghash, padded_blocks}
use Rattle.gcm_seal.specs.Sealed.{Sealed}

-- the next counter block: the last 32 bits count on, modulo 2 ^ 32, and the others stay (6.2)
unfoldable pub inc32 : List ℕ → List ℕ
inc32 block = take 12 block ++ to_be_bytes w32 ((from_be_bytes w32 (drop 12 block) + 1) % 2 ^ 32)

-- the counter block that is i blocks after another (6.5, step 5)
unfoldable pub counter_block : List ℕ → ℕ → List ℕ
counter_block initial zero = initial
counter_block initial (suc i) = inc32 (counter_block initial i)

-- the ciphers of the first n counter blocks, one after another (6.5, step 6)
unfoldable pub counter_ciphers : List ℕ → List ℕ → ℕ → List ℕ
counter_ciphers key initial zero = []
counter_ciphers key initial (suc i) =
    counter_ciphers key initial i ++ cipher key (counter_block initial i)

-- GCTR: the bytes, each plus its byte of the ciphers of the counter blocks, of which the last may
-- be cut (6.5)
unfoldable pub gctr : List ℕ → List ℕ → List ℕ → List ℕ
gctr key initial bytes = xor_bytes bytes (counter_ciphers key initial (div_ceil (length bytes) 16))

-- H, the cipher of the zero block (7.1, step 1)
unfoldable pub hash_key : List ℕ → ℕ
hash_key key = element (cipher key (replicate 16 0))

-- J 0, the pre-counter block: the initialization vector, 31 zeros and a one (7.1, step 2)
abbrev pub pre_counter_block : List ℕ → List ℕ
pre_counter_block nonce = nonce ++ 0 ∷ 0 ∷ 0 ∷ 1 ∷ []

-- C, the cipher text (7.1, step 3)
unfoldable pub cipher_text : List ℕ → List ℕ → List ℕ → List ℕ
cipher_text key nonce plain = gctr key (inc32 (pre_counter_block nonce)) plain

-- the lengths of the additional data and the cipher text in bits, 64 bits for each (7.1, step 5)
abbrev pub length_block : List ℕ → List ℕ → List ℕ
length_block aad text = to_be_bytes w64 (8 * length aad) ++ to_be_bytes w64 (8 * length text)

-- S, the hash of the additional data and the cipher text, each padded with zeros, and of their
-- lengths (7.1, steps 4 and 5)
unfoldable pub hash_of : List ℕ → List ℕ → List ℕ → ℕ
hash_of key aad text =
    ghash (hash_key key) (padded_blocks aad ++ padded_blocks text ++ length_block aad text ∷ [])

-- T, the tag: the enciphered hash, all 128 bits of it (7.1, step 6)
unfoldable pub tag_of : List ℕ → List ℕ → List ℕ → List ℕ → List ℕ
tag_of key nonce aad text = gctr key (pre_counter_block nonce) (to_be_bytes w128 (hash_of key aad text))

-- what a plain text is sealed to under a key, a nonce and additional data (7.1, step 7)
unfoldable pub gcm : List ℕ → List ℕ → List ℕ → List ℕ → Sealed
gcm key nonce aad plain =
    let text = cipher_text key nonce plain in record { text = text; tag = tag_of key nonce aad text }
