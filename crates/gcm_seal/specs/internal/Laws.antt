-- What holds of GCM whatever the key: the lengths, and that GCTR undoes itself, so that a cipher
-- text has one plain text.
use Rattle.std.proofs.Common.{◌≡◌, ℕ, List, length, ap, sym, ◌∙◌}
use Rattle.std.specs.Int.{w128, div_ceil, to_be_bytes}
use Rattle.aes_core.specs.Field.{xor_bytes}
use Rattle.aes_core.proofs.Laws.{length-xor_bytes, xor_bytes_twice}
use Rattle.gcm_seal.specs.Gcm.{cipher_text, counter_ciphers, gcm, gctr, hash_of, inc32, pre_counter_block, tag_of}
use Rattle.gcm_seal.specs.Sealed.{Sealed}

-- GCTR keeps the length
pub length-gctr : (key initial bytes : List ℕ) → length (gctr key initial bytes) ≡ length bytes
unfolding gctr
length-gctr key initial bytes = length-xor_bytes bytes (counter_ciphers key initial (div_ceil (length bytes) 16))

-- and undoes itself
pub gctr_twice : (key initial bytes : List ℕ) → gctr key initial (gctr key initial bytes) ≡ bytes
unfolding gctr
gctr_twice key initial bytes =
    let stream = counter_ciphers key initial (div_ceil (length bytes) 16) in
    ap (λ (n : ℕ). xor_bytes (xor_bytes bytes stream) (counter_ciphers key initial (div_ceil n 16))) (length-xor_bytes bytes stream)
    ∙ xor_bytes_twice bytes stream

-- one cipher text has one plain text
pub same_plain : (key nonce aad p q : List ℕ) → gcm key nonce aad p ≡ gcm key nonce aad q → p ≡ q
unfolding gcm cipher_text
same_plain key nonce aad p q same =
    let first = inc32 (pre_counter_block nonce) in
    sym (gctr_twice key first p) ∙ ap (gctr key first) (ap (λ (s : Sealed). s.text) same) ∙ gctr_twice key first q

-- a cipher text is as long as its plain text, and a tag has 16 bytes
pub gcm_lengths : (key nonce aad plain : List ℕ) → (length (gcm key nonce aad plain).text ≡ length plain) × (length (gcm key nonce aad plain).tag ≡ 16)
unfolding gcm tag_of cipher_text
gcm_lengths key nonce aad plain = (
  length-gctr key (inc32 (pre_counter_block nonce)) plain,
  length-gctr key (pre_counter_block nonce) (to_be_bytes w128 (hash_of key aad (cipher_text key nonce plain))),
)
