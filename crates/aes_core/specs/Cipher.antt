-- The AES cipher (FIPS 197, section 5.1). A state is a list of 16 bytes in the order of the input: the
-- byte of row r and column c is at place r + 4 * c (3.4).
use Rattle.std.specs.Prelude.{ℕ, zero, suc, ◌+◌, ◌-◌, ◌*◌, ◌%◌, List, [], ◌∷◌, ◌++◌, map, bit_xor, slice_index}
use Rattle.aes_core.specs.Field.{product, xor_bytes}
use Rattle.aes_core.specs.SBox.{sbox}
use Rattle.aes_core.specs.KeyExpansion.{key_expansion, round_count, word_at}

-- the byte of row r and column c (3.4)
abbrev pub byte : List ℕ → ℕ → ℕ → ℕ
byte state r c = slice_index state (r + 4 * c)

-- SubBytes (5.1.1)
abbrev pub sub_bytes : List ℕ → List ℕ
sub_bytes state = map sbox state

-- column c after ShiftRows: row r is shifted left by r places (5.1.2)
abbrev pub shifted_column : List ℕ → ℕ → List ℕ
shifted_column state c =
    byte state 0 c ∷ byte state 1 ((c + 1) % 4) ∷ byte state 2 ((c + 2) % 4) ∷ byte state 3 ((c + 3) % 4) ∷ []

-- ShiftRows (5.1.2)
abbrev pub shift_rows : List ℕ → List ℕ
shift_rows state =
    shifted_column state 0 ++ shifted_column state 1 ++ shifted_column state 2 ++ shifted_column state 3

-- the four bytes of a column after MixColumns (5.1.3)
abbrev pub mixed_column : ℕ → ℕ → ℕ → ℕ → List ℕ
mixed_column a b c d =
    bit_xor (bit_xor (bit_xor (product 2 a) (product 3 b)) c) d
    ∷ bit_xor (bit_xor (bit_xor a (product 2 b)) (product 3 c)) d
    ∷ bit_xor (bit_xor (bit_xor a b) (product 2 c)) (product 3 d)
    ∷ bit_xor (bit_xor (bit_xor (product 3 a) b) c) (product 2 d) ∷ []

-- column c after MixColumns (5.1.3)
abbrev pub mixed_column_of : List ℕ → ℕ → List ℕ
mixed_column_of state c = mixed_column (byte state 0 c) (byte state 1 c) (byte state 2 c) (byte state 3 c)

-- MixColumns (5.1.3)
abbrev pub mix_columns : List ℕ → List ℕ
mix_columns state =
    mixed_column_of state 0 ++ mixed_column_of state 1 ++ mixed_column_of state 2 ++ mixed_column_of state 3

-- the four words of the key schedule for round r (5.1.4)
abbrev pub round_key : List (List ℕ) → ℕ → List ℕ
round_key words r =
    word_at words (4 * r) ++ word_at words (4 * r + 1) ++ word_at words (4 * r + 2) ++ word_at words (4 * r + 3)

-- AddRoundKey (5.1.4)
abbrev pub add_round_key : List ℕ → List ℕ → List ℕ
add_round_key state key = xor_bytes state key

-- one round with its round key (5.1)
abbrev pub round : List ℕ → List ℕ → List ℕ
round state key = add_round_key (mix_columns (shift_rows (sub_bytes state))) key

-- the last round, which mixes no columns (5.1)
abbrev pub final_round : List ℕ → List ℕ → List ℕ
final_round state key = add_round_key (shift_rows (sub_bytes state)) key

-- the state after the first AddRoundKey and n rounds (5.1)
unfoldable pub state_after : List (List ℕ) → List ℕ → ℕ → List ℕ
state_after words input zero = add_round_key input (round_key words 0)
state_after words input (suc n) = round (state_after words input n) (round_key words (suc n))

-- the output for an input under a key schedule, in nr rounds (5.1)
unfoldable pub cipher_under : List (List ℕ) → List ℕ → ℕ → List ℕ
cipher_under words input nr = final_round (state_after words input (nr - 1)) (round_key words nr)

-- the output of the cipher for a key and an input (5.1)
unfoldable pub cipher : List ℕ → List ℕ → List ℕ
cipher key input = cipher_under (key_expansion key) input (round_count key)
