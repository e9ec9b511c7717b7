-- The first two rounds of blocks that differ in the last byte alone.
use Rattle.std.proofs.Common.{◌≡◌, ℕ, ◌+◌, ◌/◌, ◌%◌, ◌^◌, List, [], ◌∷◌, ◌++◌, bit_xor, get_or, take, sym, ap, ◌∙◌}
use Rattle.std.proofs.lemmas.Nat.{shr-shr}
use Rattle.std.specs.Int.{byte_at, to_be_bytes, w128}
use Rattle.aes_core.specs.Cipher.{add_round_key, mixed_column, round}
use Rattle.aes_core.specs.internal.Columns.{mixed_part}
use Rattle.aes_core.specs.Field.{xor_bytes}
use Rattle.aes_core.specs.SBox.{sbox}
use Rattle.aes_core.specs.internal.SharedRounds.{two_rounds}
use Rattle.aes_core.specs.internal.Words.{four_words, state_bytes, word_bytes}
use Rattle.aes_core.specs.declared.words.State.{State}

-- round 1: only column 0 depends on the last byte
pub round_one : (words : List ℕ) (block start : State) (first second third fourth last : ℕ)
    → state_bytes start ≡ add_round_key (state_bytes block) (four_words words 0)
    → ((x : ℕ) → xor_bytes (word_bytes first) (mixed_part 3 x)
    ≡ xor_bytes (mixed_column (sbox (byte_at 3 start.a)) (sbox (byte_at 2 start.b)) (sbox (byte_at 1 start.c)) x) (word_bytes (get_or words 4 0)))
    → word_bytes second ≡ xor_bytes (mixed_column (sbox (byte_at 3 start.b)) (sbox (byte_at 2 start.c)) (sbox (byte_at 1 start.d)) (sbox (byte_at 0 start.a))) (word_bytes (get_or words 5 0))
    → word_bytes third ≡ xor_bytes (mixed_column (sbox (byte_at 3 start.c)) (sbox (byte_at 2 start.d)) (sbox (byte_at 1 start.a)) (sbox (byte_at 0 start.b))) (word_bytes (get_or words 6 0))
    → word_bytes fourth ≡ xor_bytes (mixed_column (sbox (byte_at 3 start.d)) (sbox (byte_at 2 start.a)) (sbox (byte_at 1 start.b)) (sbox (byte_at 0 start.c))) (word_bytes (get_or words 7 0))
    → xor_bytes (word_bytes first) (mixed_part 3 (sbox (bit_xor last (byte_at 0 (get_or words 3 0))))) ++ word_bytes second ++ word_bytes third ++ word_bytes fourth
    ≡ round (add_round_key (take 15 (state_bytes block) ++ last ∷ []) (four_words words 0)) (four_words words 4)
round_one words block start first second third fourth last e f g h k =
    let byte : ℕ = bit_xor last (byte_at 0 (get_or words 3 0)) in
    (λ i. f (sbox byte) i ++ g i ++ h i ++ k i)
    ∙ ap (λ bytes. round (take 15 bytes ++ byte ∷ []) (four_words words 4)) e

-- round 2: one byte of each column comes from column 0
pub round_two : (words input column : List ℕ) (second third fourth a b c d : ℕ) (p q r s : ℕ)
    → column ≡ p ∷ q ∷ r ∷ s ∷ []
    → column ++ word_bytes second ++ word_bytes third ++ word_bytes fourth ≡ round (add_round_key input (four_words words 0)) (four_words words 4)
    → ((x : ℕ) → xor_bytes (word_bytes a) (mixed_part 0 x)
    ≡ xor_bytes (mixed_column x (sbox (byte_at 2 second)) (sbox (byte_at 1 third)) (sbox (byte_at 0 fourth))) (word_bytes (get_or words 8 0)))
    → ((x : ℕ) → xor_bytes (word_bytes b) (mixed_part 3 x)
    ≡ xor_bytes (mixed_column (sbox (byte_at 3 second)) (sbox (byte_at 2 third)) (sbox (byte_at 1 fourth)) x) (word_bytes (get_or words 9 0)))
    → ((x : ℕ) → xor_bytes (word_bytes c) (mixed_part 2 x)
    ≡ xor_bytes (mixed_column (sbox (byte_at 3 third)) (sbox (byte_at 2 fourth)) x (sbox (byte_at 0 second))) (word_bytes (get_or words 10 0)))
    → ((x : ℕ) → xor_bytes (word_bytes d) (mixed_part 1 x)
    ≡ xor_bytes (mixed_column (sbox (byte_at 3 fourth)) x (sbox (byte_at 1 second)) (sbox (byte_at 0 third))) (word_bytes (get_or words 11 0)))
    → xor_bytes (word_bytes a) (mixed_part 0 (sbox p)) ++ xor_bytes (word_bytes b) (mixed_part 3 (sbox s))
    ++ xor_bytes (word_bytes c) (mixed_part 2 (sbox r)) ++ xor_bytes (word_bytes d) (mixed_part 1 (sbox q))
    ≡ two_rounds words input
unfolding two_rounds
round_two words input column second third fourth a b c d p q r s cells one ha hb hc hd =
    (λ i. ha (sbox p) i ++ hb (sbox s) i ++ hc (sbox r) i ++ hd (sbox q) i)
    ∙ ap (λ state. round state (four_words words 8))
    (ap (λ col. col ++ word_bytes second ++ word_bytes third ++ word_bytes fourth) (sym cells) ∙ one)

same_byte : (m n k : ℕ) → m / 2 ^ 8 ≡ n / 2 ^ 8 → m / 2 ^ (8 + k) % 256 ≡ n / 2 ^ (8 + k) % 256
same_byte m n k e = ap (λ x. x % 256) (sym (shr-shr m 8 k) ∙ ap (λ x. x / 2 ^ k) e ∙ shr-shr n 8 k)

-- counters that differ in the last byte alone begin alike
pub same_front : (m n : ℕ) → m / 2 ^ 8 ≡ n / 2 ^ 8 → take 15 (to_be_bytes w128 m) ≡ take 15 (to_be_bytes w128 n)
same_front m n e = λ i.
    same_byte m n 112 e i ∷ same_byte m n 104 e i ∷ same_byte m n 96 e i ∷ same_byte m n 88 e i ∷ same_byte m n 80 e i
    ∷ same_byte m n 72 e i ∷ same_byte m n 64 e i ∷ same_byte m n 56 e i ∷ same_byte m n 48 e i ∷ same_byte m n 40 e i
    ∷ same_byte m n 32 e i ∷ same_byte m n 24 e i ∷ same_byte m n 16 e i ∷ same_byte m n 8 e i ∷ same_byte m n 0 e i ∷ []
