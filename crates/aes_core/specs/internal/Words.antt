-- The code's words of 32 bits as bytes: the byte of row 0 is the highest.
use Rattle.std.specs.Prelude.{ℕ, ◌+◌, List, ◌++◌, slice_index}
use Rattle.std.specs.Int.{w32, to_be_bytes}
use Rattle.aes_core.specs.declared.words.State.{State}

-- the four bytes of a word
abbrev pub word_bytes : ℕ → List ℕ
word_bytes word = to_be_bytes w32 word

-- the 16 bytes of a state
abbrev pub state_bytes : State → List ℕ
state_bytes s = word_bytes s.a ++ word_bytes s.b ++ word_bytes s.c ++ word_bytes s.d

-- the 16 bytes of four words, from place i of a list on
abbrev pub four_words : List ℕ → ℕ → List ℕ
four_words words i =
    word_bytes (slice_index words i) ++ word_bytes (slice_index words (i + 1))
    ++ word_bytes (slice_index words (i + 2)) ++ word_bytes (slice_index words (i + 3))
