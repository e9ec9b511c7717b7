-- A column after a round, from the words that the tables give for its bytes.
use Rattle.std.proofs.Common.{◌≡◌, ℕ, List, [], ◌∷◌, bit_xor, sym, ap, ◌∙◌}
use Rattle.std.proofs.lemmas.Nat.{xor_comm}
use lib.Bits.{xor_assoc}
use Rattle.aes_core.specs.Cipher.{mixed_column}
use Rattle.aes_core.specs.internal.Columns.{mixed_part}
use Rattle.aes_core.specs.Field.{product, xor_bytes}
use Rattle.aes_core.specs.SBox.{sbox}
use Rattle.aes_core.specs.internal.Words.{word_bytes}
use Rattle.aes_core.proofs.InPlace.{xor_bytes-swap}
use Rattle.aes_core.proofs.WordBytes.{word_bytes-xor}

-- a sum the other way round
pub xor_reversed : (p q r s key : ℕ)
    → bit_xor (bit_xor (bit_xor (bit_xor key s) r) q) p ≡ bit_xor (bit_xor (bit_xor (bit_xor p q) r) s) key
xor_reversed p q r s key =
    xor_comm (bit_xor (bit_xor (bit_xor key s) r) q) p
    ∙ ap (bit_xor p)
    (xor_comm (bit_xor (bit_xor key s) r) q ∙ ap (bit_xor q) (xor_comm (bit_xor key s) r ∙ ap (bit_xor r) (xor_comm key s)))
    ∙ sym (xor_assoc p q (bit_xor r (bit_xor s key)))
    ∙ sym (xor_assoc (bit_xor p q) r (bit_xor s key))
    ∙ sym (xor_assoc (bit_xor (bit_xor p q) r) s key)

-- from the words of all four bytes
pub column_of : (p q r s key a b c d : ℕ)
    → word_bytes p ≡ mixed_part 0 (sbox a) → word_bytes q ≡ mixed_part 1 (sbox b)
    → word_bytes r ≡ mixed_part 2 (sbox c) → word_bytes s ≡ mixed_part 3 (sbox d)
    → word_bytes (bit_xor (bit_xor (bit_xor (bit_xor p q) r) s) key)
    ≡ xor_bytes (mixed_column (sbox a) (sbox b) (sbox c) (sbox d)) (word_bytes key)
column_of p q r s key a b c d hp hq hr hs =
    let two = word_bytes-xor p q ∙ (λ i. xor_bytes (hp i) (hq i)) in
    let three = word_bytes-xor (bit_xor p q) r ∙ (λ i. xor_bytes (two i) (hr i)) in
    let four = word_bytes-xor (bit_xor (bit_xor p q) r) s ∙ (λ i. xor_bytes (three i) (hs i)) in
    word_bytes-xor (bit_xor (bit_xor (bit_xor p q) r) s) key ∙ ap (λ w. xor_bytes w (word_bytes key)) four

-- from those of three bytes: what the fourth adds is to come
partial : (p q r key : ℕ) (ps qs rs : List ℕ) → word_bytes p ≡ ps → word_bytes q ≡ qs → word_bytes r ≡ rs
    → word_bytes (bit_xor (bit_xor (bit_xor p q) r) key) ≡ xor_bytes (xor_bytes (xor_bytes ps qs) rs) (word_bytes key)
partial p q r key ps qs rs hp hq hr =
    let two = word_bytes-xor p q ∙ (λ i. xor_bytes (hp i) (hq i)) in
    let three = word_bytes-xor (bit_xor p q) r ∙ (λ i. xor_bytes (two i) (hr i)) in
    word_bytes-xor (bit_xor (bit_xor p q) r) key ∙ ap (λ w. xor_bytes w (word_bytes key)) three

-- the byte of row 3 is to come
pub column_but_3 : (p q r key a b c x : ℕ)
    → word_bytes p ≡ mixed_part 0 a → word_bytes q ≡ mixed_part 1 b → word_bytes r ≡ mixed_part 2 c
    → xor_bytes (word_bytes (bit_xor (bit_xor (bit_xor p q) r) key)) (mixed_part 3 x) ≡ xor_bytes (mixed_column a b c x) (word_bytes key)
column_but_3 p q r key a b c x hp hq hr =
    ap (λ w. xor_bytes w (mixed_part 3 x)) (partial p q r key (mixed_part 0 a) (mixed_part 1 b) (mixed_part 2 c) hp hq hr)
    ∙ xor_bytes-swap (xor_bytes (xor_bytes (mixed_part 0 a) (mixed_part 1 b)) (mixed_part 2 c)) (word_bytes key) (mixed_part 3 x)

-- the byte of row 2 is to come
pub column_but_2 : (p q r key a b d x : ℕ)
    → word_bytes p ≡ mixed_part 0 a → word_bytes q ≡ mixed_part 1 b → word_bytes r ≡ mixed_part 3 d
    → xor_bytes (word_bytes (bit_xor (bit_xor (bit_xor p q) r) key)) (mixed_part 2 x) ≡ xor_bytes (mixed_column a b x d) (word_bytes key)
column_but_2 p q r key a b d x hp hq hr =
    ap (λ w. xor_bytes w (mixed_part 2 x)) (partial p q r key (mixed_part 0 a) (mixed_part 1 b) (mixed_part 3 d) hp hq hr)
    ∙ xor_bytes-swap (xor_bytes (xor_bytes (mixed_part 0 a) (mixed_part 1 b)) (mixed_part 3 d)) (word_bytes key) (mixed_part 2 x)
    ∙ ap (λ w. xor_bytes w (word_bytes key)) (xor_bytes-swap (xor_bytes (mixed_part 0 a) (mixed_part 1 b)) (mixed_part 3 d) (mixed_part 2 x))

-- the byte of row 1 is to come
pub column_but_1 : (p q r key a c d x : ℕ)
    → word_bytes p ≡ mixed_part 0 a → word_bytes q ≡ mixed_part 2 c → word_bytes r ≡ mixed_part 3 d
    → xor_bytes (word_bytes (bit_xor (bit_xor (bit_xor p q) r) key)) (mixed_part 1 x) ≡ xor_bytes (mixed_column a x c d) (word_bytes key)
column_but_1 p q r key a c d x hp hq hr =
    ap (λ w. xor_bytes w (mixed_part 1 x)) (partial p q r key (mixed_part 0 a) (mixed_part 2 c) (mixed_part 3 d) hp hq hr)
    ∙ xor_bytes-swap (xor_bytes (xor_bytes (mixed_part 0 a) (mixed_part 2 c)) (mixed_part 3 d)) (word_bytes key) (mixed_part 1 x)
    ∙ ap (λ w. xor_bytes w (word_bytes key))
    (xor_bytes-swap (xor_bytes (mixed_part 0 a) (mixed_part 2 c)) (mixed_part 3 d) (mixed_part 1 x)
    ∙ ap (λ w. xor_bytes w (mixed_part 3 d)) (xor_bytes-swap (mixed_part 0 a) (mixed_part 2 c) (mixed_part 1 x)))

-- the byte of row 0 is to come
pub column_but_0 : (p q r key b c d x : ℕ)
    → word_bytes p ≡ mixed_part 1 b → word_bytes q ≡ mixed_part 2 c → word_bytes r ≡ mixed_part 3 d
    → xor_bytes (word_bytes (bit_xor (bit_xor (bit_xor p q) r) key)) (mixed_part 0 x) ≡ xor_bytes (mixed_column x b c d) (word_bytes key)
column_but_0 p q r key b c d x hp hq hr =
    let turned : xor_bytes (mixed_part 1 b) (mixed_part 0 x) ≡ xor_bytes (mixed_part 0 x) (mixed_part 1 b) =
    λ i. xor_comm (product 3 b) (product 2 x) i ∷ xor_comm (product 2 b) x i ∷ xor_comm b x i ∷ xor_comm b (product 3 x) i ∷ [] in
    ap (λ w. xor_bytes w (mixed_part 0 x)) (partial p q r key (mixed_part 1 b) (mixed_part 2 c) (mixed_part 3 d) hp hq hr)
    ∙ xor_bytes-swap (xor_bytes (xor_bytes (mixed_part 1 b) (mixed_part 2 c)) (mixed_part 3 d)) (word_bytes key) (mixed_part 0 x)
    ∙ ap (λ w. xor_bytes w (word_bytes key))
    (xor_bytes-swap (xor_bytes (mixed_part 1 b) (mixed_part 2 c)) (mixed_part 3 d) (mixed_part 0 x)
    ∙ ap (λ w. xor_bytes w (mixed_part 3 d))
    (xor_bytes-swap (mixed_part 1 b) (mixed_part 2 c) (mixed_part 0 x) ∙ ap (λ w. xor_bytes w (mixed_part 2 c)) turned))
