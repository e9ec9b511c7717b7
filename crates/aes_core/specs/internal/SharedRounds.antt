-- What the first two rounds have in common for blocks that differ in the last byte alone.
use Rattle.std.specs.Prelude.{◌≡◌, ℕ, List, [], ◌∷◌, ◌++◌, bit_xor, slice_index, take}
use Rattle.std.specs.Int.{byte_at, to_be_bytes, w128}
use Rattle.aes_core.specs.Cipher.{add_round_key, round}
use Rattle.aes_core.specs.internal.Columns.{mixed_part}
use Rattle.aes_core.specs.Field.{xor_bytes}
use Rattle.aes_core.specs.SBox.{sbox}
use Rattle.aes_core.specs.internal.Words.{four_words, word_bytes}
use Rattle.aes_core.specs.declared.shared.SharedRounds.{SharedRounds}

-- the state after the first two rounds, under the round keys that begin at words 0, 4 and 8
unfoldable pub two_rounds : List ℕ → List ℕ → List ℕ
two_rounds words input =
    round (round (add_round_key input (four_words words 0)) (four_words words 4)) (four_words words 8)

-- column 0 after round 1, for a last byte
abbrev pub first_column : SharedRounds → ℕ → List ℕ
first_column s last =
    xor_bytes (word_bytes s.first) (mixed_part 3 (sbox (bit_xor last (byte_at 0 s.last_key))))

-- the columns after round 2, from column 0 after round 1
abbrev pub second_state : SharedRounds → List ℕ → List ℕ
second_state s column =
    xor_bytes (word_bytes s.a) (mixed_part 0 (sbox (slice_index column 0)))
    ++ xor_bytes (word_bytes s.b) (mixed_part 3 (sbox (slice_index column 3)))
    ++ xor_bytes (word_bytes s.c) (mixed_part 2 (sbox (slice_index column 2)))
    ++ xor_bytes (word_bytes s.d) (mixed_part 1 (sbox (slice_index column 1)))

-- s serves the blocks that begin as the counter does
pub record IsShared (s : SharedRounds) (words : List ℕ) (counter : ℕ) : Type 0 where
  pub gives : (last : ℕ)
      → second_state s (first_column s last) ≡ two_rounds words (take 15 (to_be_bytes w128 counter) ++ last ∷ [])
