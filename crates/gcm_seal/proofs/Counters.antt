-- The counter mode of the cipher, whose counter is the whole block, is GCTR as long as the last 32
-- bits do not wrap.
use Rattle.std.proofs.Common.{◌≡◌, ℕ, zero, suc, ◌+◌, ◌*◌, ◌/◌, ◌%◌, ◌^◌, ◌<◌, ◌≤◌, List, [], ◌∷◌, ◌++◌, length, get_or, take, drop, bit_xor, ap, sym, ◌∙◌, refl, arith}
use Rattle.std.proofs.lemmas.List.{drop_at, length-append, take_at}
use Rattle.std.proofs.lemmas.Nat.{from_be_bytes-to_be_bytes_4}
use Rattle.std.specs.Int.{w32, w128, bytes_high_first, div_ceil, from_be_bytes, to_be_bytes}
use Rattle.aes_core.specs.Cipher.{cipher}
use Rattle.aes_core.specs.CounterMode.{key_stream, output_blocks}
use Rattle.aes_core.specs.Field.{xor_bytes}
use Rattle.gcm_seal.specs.Gcm.{counter_block, counter_ciphers, gctr, inc32, pre_counter_block}
use Rattle.gcm_seal.proofs.BigEndian.{bytes_of_parts, bytes_of_value, from_be_bytes-value, value, value-append, value-lt}

-- a nonce and a number of 32 bits
unfoldable pub numbered : List ℕ → ℕ → List ℕ
numbered nonce n = nonce ++ to_be_bytes w32 n

-- such a block counts on in its number
inc32-numbered : (nonce : List ℕ) (n : ℕ) → length nonce ≡ 12 → n + 1 < 2 ^ 32 → inc32 (numbered nonce n) ≡ numbered nonce (n + 1)
unfolding inc32 numbered
inc32-numbered nonce n size fits =
    let number = ap (from_be_bytes w32) (drop_at nonce (to_be_bytes w32 n) 12 size) ∙ from_be_bytes-to_be_bytes_4 n (omega arith) in
    let next : (n + 1) % 2 ^ 32 ≡ n + 1 = omega arith in
    ap (λ (front : List ℕ). front ++ to_be_bytes w32 ((from_be_bytes w32 (drop 12 (nonce ++ to_be_bytes w32 n)) + 1) % 2 ^ 32)) (take_at nonce (to_be_bytes w32 n) 12 size)
    ∙ ap (λ (k : ℕ). nonce ++ to_be_bytes w32 ((k + 1) % 2 ^ 32)) number
    ∙ ap (λ (k : ℕ). nonce ++ to_be_bytes w32 k) next

counter_block-numbered : (nonce : List ℕ) (n i : ℕ) → length nonce ≡ 12 → n + i < 2 ^ 32 → counter_block (numbered nonce n) i ≡ numbered nonce (n + i)
unfolding counter_block
counter_block-numbered nonce n zero size fits = let same : n ≡ n + 0 = omega arith in ap (numbered nonce) same
counter_block-numbered nonce n (suc i) size fits =
    let next : n + i + 1 ≡ n + suc i = omega arith in
    ap inc32 (counter_block-numbered nonce n i size (omega arith))
    ∙ inc32-numbered nonce (n + i) size (omega arith)
    ∙ ap (numbered nonce) next

value-word : (n : ℕ) → n < 2 ^ 32 → value (to_be_bytes w32 n) ≡ n
unfolding value
value-word n fits = omega (arith, from_be_bytes-to_be_bytes_4 n fits)

-- the number of such a block, counted on, is that of the block with the number counted on
block_of_counter : (nonce : List ℕ) (n i : ℕ) → length nonce ≡ 12 → ((k : ℕ) → get_or nonce k 0 < 256) → n + i < 2 ^ 32 → to_be_bytes w128 ((from_be_bytes w128 (numbered nonce n) + i) % 2 ^ 128) ≡ numbered nonce (n + i)
unfolding numbered
block_of_counter nonce n i size small fits =
    let front : ℕ = value nonce in
    let low : value (to_be_bytes w32 n) ≡ n = value-word n (omega arith) in
    let whole : length (nonce ++ to_be_bytes w32 n) ≡ 16 = length-append nonce (to_be_bytes w32 n) ∙ ap (λ (k : ℕ). k + 4) size in
    let number : from_be_bytes w128 (nonce ++ to_be_bytes w32 n) ≡ front * 256 ^ 4 + n =
    from_be_bytes-value (nonce ++ to_be_bytes w32 n) whole ∙ value-append nonce (to_be_bytes w32 n) ∙ ap (λ (k : ℕ). front * 256 ^ 4 + k) low in
    let high : front < 2 ^ 96 = omega (arith, value-lt nonce small, ap (λ (k : ℕ). 256 ^ k) size) in
    let counted : (from_be_bytes w128 (nonce ++ to_be_bytes w32 n) + i) % 2 ^ 128 ≡ front * 256 ^ 4 + (n + i) = omega (arith, number) in
    ap (to_be_bytes w128) counted
    ∙ bytes_of_parts 12 4 front (n + i) fits
    ∙ ap (λ (bytes : List ℕ). bytes ++ to_be_bytes w32 (n + i))
    (ap (λ (k : ℕ). bytes_high_first k front) (sym size) ∙ bytes_of_value nonce small)

-- so the output blocks are the ciphers of the counter blocks
same_blocks : (key nonce : List ℕ) (n count : ℕ) → length nonce ≡ 12 → ((k : ℕ) → get_or nonce k 0 < 256) → n + count ≤ 2 ^ 32 → output_blocks key (from_be_bytes w128 (numbered nonce n)) count ≡ counter_ciphers key (numbered nonce n) count
unfolding output_blocks counter_ciphers
same_blocks key nonce n zero size small fits = refl
same_blocks key nonce n (suc i) size small fits =
    let block = block_of_counter nonce n i size small (omega arith) ∙ sym (counter_block-numbered nonce n i size (omega arith)) in
    ap (λ (before : List ℕ). before ++ cipher key (to_be_bytes w128 ((from_be_bytes w128 (numbered nonce n) + i) % 2 ^ 128)))
    (same_blocks key nonce n i size small (omega arith))
    ∙ ap (λ (b : List ℕ). counter_ciphers key (numbered nonce n) i ++ cipher key b) block

-- what a cut after the bytes takes away is not added to any of them
xor_bytes-take : (bytes stream : List ℕ) → xor_bytes bytes (take (length bytes) stream) ≡ xor_bytes bytes stream
xor_bytes-take [] stream = refl
xor_bytes-take (b ∷ bytes) [] = refl
xor_bytes-take (b ∷ bytes) (s ∷ stream) = ap (λ (rest : List ℕ). bit_xor b s ∷ rest) (xor_bytes-take bytes stream)

-- the counter mode from a nonce and a number is GCTR from there
pub ctr_is_gctr : (key nonce bytes : List ℕ) (n : ℕ) → length nonce ≡ 12 → ((k : ℕ) → get_or nonce k 0 < 256) → n + length bytes < 2 ^ 32 → xor_bytes bytes (key_stream key (numbered nonce n) (length bytes)) ≡ gctr key (numbered nonce n) bytes
unfolding key_stream gctr
ctr_is_gctr key nonce bytes n size small fits =
    let count : (length bytes + 15) / 16 ≡ div_ceil (length bytes) 16 = omega arith in
    xor_bytes-take bytes (output_blocks key (from_be_bytes w128 (numbered nonce n)) ((length bytes + 15) / 16))
    ∙ ap (λ (k : ℕ). xor_bytes bytes (output_blocks key (from_be_bytes w128 (numbered nonce n)) k)) count
    ∙ ap (xor_bytes bytes) (same_blocks key nonce n (div_ceil (length bytes) 16) size small (omega arith))

-- the two blocks that GCM counts from
pub numbered_one : (nonce : List ℕ) → numbered nonce 1 ≡ pre_counter_block nonce
unfolding numbered
numbered_one nonce = refl

pub numbered_two : (nonce : List ℕ) → length nonce ≡ 12 → numbered nonce 2 ≡ inc32 (pre_counter_block nonce)
numbered_two nonce size = sym (ap inc32 (sym (numbered_one nonce)) ∙ inc32-numbered nonce 1 size (omega arith))
