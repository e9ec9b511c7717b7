-- What the steps of sealing make is what GCM is defined to be.
use Rattle.std.proofs.Common.{◌≡◌, ℕ, ◌<◌, ◌≤◌, List, [], ◌∷◌, ◌++◌, length, get_or, bit_xor, ap, sym, ◌∙◌, arith}
use Rattle.std.proofs.lemmas.List.Sums.{fold-append, fold_push}
use Rattle.std.specs.Int.{w128, to_be_bytes}
use Rattle.aes_core.specs.CounterMode.{key_stream}
use Rattle.aes_core.specs.Field.{xor_bytes}
use Rattle.ghash_core.specs.Field.{product}
use Rattle.ghash_core.specs.Ghash.{element, ghash, ghash_from, ghash_step, padded_blocks}
use Rattle.gcm_seal.specs.Gcm.{cipher_text, gcm, gctr, hash_key, hash_of, inc32, length_block, pre_counter_block, tag_of}
use Rattle.gcm_seal.specs.internal.Laws.{gctr_twice}
use Rattle.gcm_seal.specs.Sealed.{Sealed}
use Rattle.gcm_seal.proofs.Counters.{ctr_is_gctr, numbered, numbered_one, numbered_two}

-- the counter mode from the second counter block on
pub text_enciphered : (key nonce bytes block after : List ℕ) → length nonce ≡ 12 → ((i : ℕ) → get_or nonce i 0 < 256) → length bytes ≤ 65536 → block ≡ numbered nonce 2 → after ≡ xor_bytes bytes (key_stream key block (length bytes)) → after ≡ cipher_text key nonce bytes
unfolding cipher_text
text_enciphered key nonce bytes block after size small fits is_block enciphered =
    enciphered
    ∙ ap (λ (b : List ℕ). xor_bytes bytes (key_stream key b (length bytes))) is_block
    ∙ ctr_is_gctr key nonce bytes 2 size small (omega arith)
    ∙ ap (λ (b : List ℕ). gctr key b bytes) (numbered_two nonce size)

-- the counter mode from the first one on, over a hash
pub hash_enciphered : (key nonce aad text bytes block after : List ℕ) → length nonce ≡ 12 → ((i : ℕ) → get_or nonce i 0 < 256) → bytes ≡ to_be_bytes w128 (hash_of key aad text) → block ≡ numbered nonce 1 → after ≡ xor_bytes bytes (key_stream key block (length bytes)) → after ≡ tag_of key nonce aad text
unfolding tag_of
hash_enciphered key nonce aad text bytes block after size small hashed is_block enciphered =
    let hash = to_be_bytes w128 (hash_of key aad text) in
    enciphered
    ∙ ap (λ (b : List ℕ). xor_bytes b (key_stream key block (length b))) hashed
    ∙ ap (λ (b : List ℕ). xor_bytes hash (key_stream key b 16)) is_block
    ∙ ctr_is_gctr key nonce hash 1 size small (omega arith)
    ∙ ap (λ (b : List ℕ). gctr key b hash) (numbered_one nonce)

-- the hash, part by part
pub hash_in_parts : (key aad text : List ℕ) (h sum all lengths : ℕ) → h ≡ hash_key key → sum ≡ ghash_from h 0 (padded_blocks aad) → all ≡ ghash_from h sum (padded_blocks text) → lengths ≡ element (length_block aad text) → product (bit_xor all lengths) h ≡ hash_of key aad text
unfolding hash_of ghash ghash_from
hash_in_parts key aad text h sum all lengths is_key after_aad after_text is_lengths =
    let blocks = padded_blocks aad ++ padded_blocks text in
    let joined : all ≡ ghash_from h 0 blocks =
    after_text ∙ ap (λ (s : ℕ). ghash_from h s (padded_blocks text)) after_aad ∙ sym (fold-append (ghash_step h) 0 (padded_blocks aad) (padded_blocks text)) in
    ap (λ (s : ℕ). product (bit_xor s lengths) h) joined
    ∙ ap (λ (x : ℕ). product (bit_xor (ghash_from h 0 blocks) x) h) is_lengths
    ∙ sym (fold_push (ghash_step h) 0 blocks (length_block aad text))
    ∙ ap (λ (k : ℕ). ghash k (blocks ++ length_block aad text ∷ [])) is_key

-- a cipher text and its tag
pub sealed_in_parts : (key nonce aad plain text tag : List ℕ) → text ≡ cipher_text key nonce plain → tag ≡ tag_of key nonce aad text → gcm key nonce aad plain ≡ record { text = text; tag = tag }
unfolding gcm
sealed_in_parts key nonce aad plain text tag is_text is_tag =
    sym (ap (λ (t : List ℕ). record { text = text; tag = t }) (is_tag ∙ ap (tag_of key nonce aad) is_text) ∙ ap (λ (t : List ℕ). record { text = t; tag = tag_of key nonce aad (cipher_text key nonce plain) }) is_text)

-- a text whose tag is right opens to what seals to it
pub opened_in_parts : (key nonce aad plain text tag : List ℕ) → plain ≡ cipher_text key nonce text → tag ≡ tag_of key nonce aad text → gcm key nonce aad plain ≡ record { text = text; tag = tag }
unfolding cipher_text
opened_in_parts key nonce aad plain text tag is_plain is_tag =
    let first = inc32 (pre_counter_block nonce) in
    let back : text ≡ cipher_text key nonce plain = sym (ap (gctr key first) is_plain ∙ gctr_twice key first text) in
    sealed_in_parts key nonce aad plain text tag back is_tag

-- what seals to a text has the tag of that text
pub tag_of_sealed : (key nonce aad plain text tag : List ℕ) → gcm key nonce aad plain ≡ record { text = text; tag = tag } → tag ≡ tag_of key nonce aad text
unfolding gcm
tag_of_sealed key nonce aad plain text tag sealed =
    sym (ap (λ (s : Sealed). s.tag) sealed) ∙ ap (λ (s : Sealed). tag_of key nonce aad s.text) sealed
