-- The key stream, block by block.
use Rattle.std.proofs.Common.{◌≡◌, ℕ, zero, suc, ◌+◌, ◌-◌, ◌*◌, ◌/◌, ◌%◌, ◌^◌, ◌≤◌, List, ◌++◌, length, take, drop, refl, sym, ap, ◌∙◌, arith, add-one, length-append}
use Rattle.std.specs.Int.{from_be_bytes, to_be_bytes, w128}
use Rattle.aes_core.specs.Cipher.{cipher, cipher_under, round_key, shift_rows, state_after, sub_bytes}
use Rattle.aes_core.specs.CounterMode.{key_stream, output_blocks}
use Rattle.aes_core.specs.Field.{xor_bytes}
use Rattle.aes_core.specs.KeyExpansion.{key_expansion, round_count}
use Rattle.aes_core.specs.internal.Schedule.{IsSchedule, key_bytes, schedule_words}
use Rattle.aes_core.proofs.InPlace.{xor_bytes-append, xor_bytes-take}
use Rattle.aes_core.proofs.Laws.{length-xor_bytes}

-- what a key schedule gives is the cipher for the key that it begins with
pub cipher_of : (words : List ℕ) (rounds : ℕ) (key input : List ℕ) → IsSchedule words rounds → key_bytes words rounds ≡ key
    → cipher_under (schedule_words words rounds) input rounds ≡ cipher key input
unfolding cipher
cipher_of words rounds key input held is =
    (λ i. cipher_under (held.expanded i) input (sym held.count i)) ∙ ap (λ k. cipher k input) is

-- an output of the cipher has 16 bytes
pub length-cipher : (key input : List ℕ) → length (cipher key input) ≡ 16
unfolding cipher cipher_under
length-cipher key input =
    length-xor_bytes
    (shift_rows (sub_bytes (state_after (key_expansion key) input (round_count key - 1))))
    (round_key (key_expansion key) (round_count key))

pub output_blocks-next : (key : List ℕ) (first n : ℕ)
    → output_blocks key first (n + 1) ≡ output_blocks key first n ++ cipher key (to_be_bytes w128 ((first + n) % 2 ^ 128))
unfolding output_blocks
output_blocks-next key first n = rw add-one refl

pub length-output_blocks : (key : List ℕ) (first n : ℕ) → length (output_blocks key first n) ≡ 16 * n
unfolding output_blocks
length-output_blocks key first zero = refl
length-output_blocks key first (suc n) =
    omega (arith, length-append (output_blocks key first n) (cipher key (to_be_bytes w128 ((first + n) % 2 ^ 128))), length-output_blocks key first n, length-cipher key (to_be_bytes w128 ((first + n) % 2 ^ 128)))

-- one more block, in place
pub streamed_next : (key bytes now block : List ℕ) (first n at : ℕ) → at ≡ 16 * n → at ≤ length bytes
    → now ≡ xor_bytes bytes (output_blocks key first n)
    → block ≡ cipher key (to_be_bytes w128 ((first + n) % 2 ^ 128))
    → take at now ++ xor_bytes (drop at now) block ≡ xor_bytes bytes (output_blocks key first (n + 1))
streamed_next key bytes now block first n at e le held is =
    (λ i. take at (held i) ++ xor_bytes (drop at (held i)) (is i))
    ∙ xor_bytes-append bytes (output_blocks key first n) (cipher key (to_be_bytes w128 ((first + n) % 2 ^ 128))) at (omega (arith, length-output_blocks key first n)) le
    ∙ ap (xor_bytes bytes) (sym (output_blocks-next key first n))

-- all blocks
pub streamed_all : (key bytes iv : List ℕ) (first n : ℕ) → first ≡ from_be_bytes w128 iv → n ≡ (length bytes + 15) / 16
    → xor_bytes bytes (output_blocks key first n) ≡ xor_bytes bytes (key_stream key iv (length bytes))
unfolding key_stream
streamed_all key bytes iv first n begins e =
    (λ i. xor_bytes bytes (output_blocks key (begins i) (e i)))
    ∙ sym (xor_bytes-take bytes (output_blocks key (from_be_bytes w128 iv) ((length bytes + 15) / 16)))

-- what a key schedule gives for a counter is the cipher for the key that it begins with
pub counter_output : (words : List ℕ) (rounds : ℕ) (key output : List ℕ) (counter n : ℕ) → IsSchedule words rounds → key_bytes words rounds ≡ key
    → output ≡ cipher_under (schedule_words words rounds) (to_be_bytes w128 counter) rounds → counter ≡ n
    → output ≡ cipher key (to_be_bytes w128 n)
counter_output words rounds key output counter n held is gives e =
    gives ∙ cipher_of words rounds key (to_be_bytes w128 counter) held is ∙ ap (λ k. cipher key (to_be_bytes w128 k)) e
