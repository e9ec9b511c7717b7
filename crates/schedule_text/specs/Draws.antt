-- The random bytes of a schedule's events: ChaCha20 under the schedule's seed, 32 words for each event, of which it takes 30.
use Rattle.std.specs.Prelude.{ℕ, zero, suc, ◌+◌, ◌*◌, List, [], ◌++◌, replicate}
use Rattle.std.specs.Int.{w32, w64, to_le_bytes}
use Rattle.rand_chacha.specs.ChaCha.{key_of, word_at}

-- the key of a seed: its 8 bytes, the low one first, and 24 zeros
unfoldable pub key_bytes : ℕ → List ℕ
key_bytes seed = to_le_bytes w64 seed ++ replicate 24 0

-- the word at this place of stream 0, after 20 rounds
unfoldable pub draw_word : ℕ → ℕ → ℕ
draw_word seed place = word_at 10 (key_of (key_bytes seed)) 0 place

-- the bytes of so many words from this place on, the low byte of each first
unfoldable pub words_from : ℕ → ℕ → ℕ → List ℕ
words_from seed place zero = []
words_from seed place (suc count) = words_from seed place count ++ to_le_bytes w32 (draw_word seed (place + count))

-- the random bytes of the event of this number
unfoldable pub draw_of : ℕ → ℕ → List ℕ
draw_of seed number = words_from seed (32 * number) 30
