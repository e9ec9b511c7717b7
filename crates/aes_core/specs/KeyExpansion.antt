-- KeyExpansion (FIPS 197, section 5.2): the words of the key schedule, each a list of four bytes.
use Rattle.std.specs.Prelude.{ℕ, zero, suc, ◌+◌, ◌-◌, ◌*◌, ◌/◌, ◌%◌, ◌==◌, ◌&&◌, nat_lt, if◌then◌else◌, List, [], ◌∷◌, ◌++◌, length, map, take, drop, slice_index_or}
use Rattle.aes_core.specs.Field.{times_power, xor_bytes}
use Rattle.aes_core.specs.SBox.{sbox}

-- RotWord (5.2)
abbrev pub rot_word : List ℕ → List ℕ
rot_word word = drop 1 word ++ take 1 word

-- SubWord (5.2)
abbrev pub sub_word : List ℕ → List ℕ
sub_word word = map sbox word

-- the round constant i: x ^ (i - 1) and three zeros (5.2)
abbrev pub rcon : ℕ → List ℕ
rcon i = times_power 1 (i - 1) ∷ 0 ∷ 0 ∷ 0 ∷ []

-- Nk, how many words a key has
abbrev pub key_length : List ℕ → ℕ
key_length key = length key / 4

-- Nr, how many rounds a key has
abbrev pub round_count : List ℕ → ℕ
round_count key = key_length key + 6

-- word i of a list of words
abbrev pub word_at : List (List ℕ) → ℕ → List ℕ
word_at words i = slice_index_or words i []

-- what is added to word i - Nk to make word i: word i - 1, here previous, transformed where the
-- standard says so (5.2)
abbrev pub added_word : ℕ → List ℕ → ℕ → List ℕ
added_word nk previous i =
    if i % nk == 0 then xor_bytes (sub_word (rot_word previous)) (rcon (i / nk))
    else (if nat_lt 6 nk && (i % nk == 4) then sub_word previous else previous)

-- word i, from the key and the words before it (5.2)
abbrev pub next_word : List ℕ → List (List ℕ) → ℕ → List ℕ
next_word key words i =
    if nat_lt i (key_length key) then take 4 (drop (4 * i) key)
    else xor_bytes (word_at words (i - key_length key)) (added_word (key_length key) (word_at words (i - 1)) i)

-- the first n words of the key schedule
unfoldable pub key_words : List ℕ → ℕ → List (List ℕ)
key_words key zero = []
key_words key (suc n) = key_words key n ++ next_word key (key_words key n) n ∷ []

-- the key schedule: four words for the start, and four for each round (5.2)
unfoldable pub key_expansion : List ℕ → List (List ℕ)
key_expansion key = key_words key (4 * (round_count key + 1))
