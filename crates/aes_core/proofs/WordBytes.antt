-- The bytes of words: of a sum, of a word made of bytes, of a part of a counter.
use Rattle.std.proofs.Common.{◌≡◌, ℕ, suc, ◌+◌, ◌/◌, ◌%◌, ◌^◌, ◌<◌, ◌≤◌, List, [], ◌∷◌, ◌++◌, length, get_or, take, drop, bit_and, bit_xor, sym, ap, ◌∙◌, arith, w32}
use Rattle.std.proofs.lemmas.Nat.{and_mask, shr-shr, xor_shr, xor_mod}
use Rattle.std.proofs.Math.Seq.{drop-cons}
use Rattle.std.specs.Int.{from_be_bytes, to_be_bytes, w128}
use Rattle.aes_core.specs.Field.{xor_bytes}
use Rattle.aes_core.specs.internal.Words.{word_bytes}

xor_byte : (x y k : ℕ) → bit_xor x y / 2 ^ k % 2 ^ 8 ≡ bit_xor (x / 2 ^ k % 2 ^ 8) (y / 2 ^ k % 2 ^ 8)
xor_byte x y k = ap (λ n. n % 2 ^ 8) (xor_shr x y k) ∙ xor_mod (x / 2 ^ k) (y / 2 ^ k) 8

-- the bytes of a sum are the sums of the bytes
pub word_bytes-xor : (x y : ℕ) → word_bytes (bit_xor x y) ≡ xor_bytes (word_bytes x) (word_bytes y)
word_bytes-xor x y =
    let e3 : bit_xor x y / 16777216 % 256 ≡ bit_xor (x / 16777216 % 256) (y / 16777216 % 256) = xor_byte x y 24 in
    let e2 : bit_xor x y / 65536 % 256 ≡ bit_xor (x / 65536 % 256) (y / 65536 % 256) = xor_byte x y 16 in
    let e1 : bit_xor x y / 256 % 256 ≡ bit_xor (x / 256 % 256) (y / 256 % 256) = xor_byte x y 8 in
    let e0 : bit_xor x y % 256 ≡ bit_xor (x % 256) (y % 256) = xor_mod x y 8 in
    λ i. e3 i ∷ e2 i ∷ e1 i ∷ e0 i ∷ []

-- a word made of four bytes has them
pub word_bytes_of : (n a b c d : ℕ) → a < 256 → b < 256 → c < 256 → d < 256
    → n ≡ from_be_bytes w32 (a ∷ b ∷ c ∷ d ∷ []) → word_bytes n ≡ a ∷ b ∷ c ∷ d ∷ []
word_bytes_of n a b c d ha hb hc hd e =
    let e3 : n / 16777216 % 256 ≡ a = omega arith in
    let e2 : n / 65536 % 256 ≡ b = omega arith in
    let e1 : n / 256 % 256 ≡ c = omega arith in
    let e0 : n % 256 ≡ d = omega arith in
    λ i. e3 i ∷ e2 i ∷ e1 i ∷ e0 i ∷ []

-- four bytes of a list, one by one
pub four_from : (xs : List ℕ) (at : ℕ) → at + 4 ≤ length xs
    → take 4 (drop at xs) ≡ get_or xs at 0 ∷ get_or xs (at + 1) 0 ∷ get_or xs (at + 2) 0 ∷ get_or xs (at + 3) 0 ∷ []
four_from xs at h =
    let d0 : drop at xs ≡ get_or xs at 0 ∷ drop (suc at) xs = drop-cons xs at 0 (omega arith) in
    let d1 : drop (suc at) xs ≡ get_or xs (suc at) 0 ∷ drop (suc (suc at)) xs = drop-cons xs (suc at) 0 (omega arith) in
    let d2 : drop (suc (suc at)) xs ≡ get_or xs (suc (suc at)) 0 ∷ drop (suc (suc (suc at))) xs = drop-cons xs (suc (suc at)) 0 (omega arith) in
    let d3 : drop (suc (suc (suc at))) xs ≡ get_or xs (suc (suc (suc at))) 0 ∷ drop (suc (suc (suc (suc at)))) xs = drop-cons xs (suc (suc (suc at))) 0 (omega arith) in
    let s1 : suc at ≡ at + 1 = omega arith in
    let s2 : suc (suc at) ≡ at + 2 = omega arith in
    let s3 : suc (suc (suc at)) ≡ at + 3 = omega arith in
    ap (take 4) (d0 ∙ ap (λ r. get_or xs at 0 ∷ r) (d1 ∙ ap (λ r. get_or xs (suc at) 0 ∷ r) (d2 ∙ ap (λ r. get_or xs (suc (suc at)) 0 ∷ r) d3)))
    ∙ (λ i. get_or xs at 0 ∷ get_or xs (s1 i) 0 ∷ get_or xs (s2 i) 0 ∷ get_or xs (s3 i) 0 ∷ [])

-- the word at a place of a list of bytes has the four bytes there
pub word_bytes_from : (xs : List ℕ) (at n : ℕ) → at + 4 ≤ length xs → ((i : ℕ) → get_or xs i 0 < 256)
    → n ≡ from_be_bytes w32 (get_or xs at 0 ∷ get_or xs (at + 1) 0 ∷ get_or xs (at + 2) 0 ∷ get_or xs (at + 3) 0 ∷ [])
    → word_bytes n ≡ take 4 (drop at xs)
word_bytes_from xs at n h fits e =
    word_bytes_of n _ _ _ _ (fits at) (fits (at + 1)) (fits (at + 2)) (fits (at + 3)) e ∙ sym (four_from xs at h)

word_bytes-and : (n : ℕ) → word_bytes (bit_and n 4294967295) ≡ word_bytes n
word_bytes-and n =
    let low : bit_and n 4294967295 ≡ n % 4294967296 = and_mask n 32 in
    let e3 : n % 4294967296 / 16777216 % 256 ≡ n / 16777216 % 256 = omega arith in
    let e2 : n % 4294967296 / 65536 % 256 ≡ n / 65536 % 256 = omega arith in
    let e1 : n % 4294967296 / 256 % 256 ≡ n / 256 % 256 = omega arith in
    let e0 : n % 4294967296 % 256 ≡ n % 256 = omega arith in
    ap word_bytes low ∙ (λ i. e3 i ∷ e2 i ∷ e1 i ∷ e0 i ∷ [])

-- the byte k bits up in a number that is shifted by s bits
shifted_byte : (n s k : ℕ) → n / 2 ^ s / 2 ^ k % 256 ≡ n / 2 ^ (s + k) % 256
shifted_byte n s k = ap (λ m. m % 256) (shr-shr n s k)

-- the bytes of a counter, word by word
pub counter_bytes : (n : ℕ)
    → word_bytes (n / 2 ^ 96) ++ word_bytes (bit_and (n / 2 ^ 64) 4294967295)
    ++ word_bytes (bit_and (n / 2 ^ 32) 4294967295) ++ word_bytes (bit_and n 4294967295) ≡ to_be_bytes w128 n
counter_bytes n =
    let a : word_bytes (n / 2 ^ 96) ≡ n / 2 ^ 120 % 256 ∷ n / 2 ^ 112 % 256 ∷ n / 2 ^ 104 % 256 ∷ n / 2 ^ 96 % 256 ∷ [] =
    λ i. shifted_byte n 96 24 i ∷ shifted_byte n 96 16 i ∷ shifted_byte n 96 8 i ∷ n / 2 ^ 96 % 256 ∷ [] in
    let b : word_bytes (n / 2 ^ 64) ≡ n / 2 ^ 88 % 256 ∷ n / 2 ^ 80 % 256 ∷ n / 2 ^ 72 % 256 ∷ n / 2 ^ 64 % 256 ∷ [] =
    λ i. shifted_byte n 64 24 i ∷ shifted_byte n 64 16 i ∷ shifted_byte n 64 8 i ∷ n / 2 ^ 64 % 256 ∷ [] in
    let c : word_bytes (n / 2 ^ 32) ≡ n / 2 ^ 56 % 256 ∷ n / 2 ^ 48 % 256 ∷ n / 2 ^ 40 % 256 ∷ n / 2 ^ 32 % 256 ∷ [] =
    λ i. shifted_byte n 32 24 i ∷ shifted_byte n 32 16 i ∷ shifted_byte n 32 8 i ∷ n / 2 ^ 32 % 256 ∷ [] in
    let b' = word_bytes-and (n / 2 ^ 64) ∙ b in
    let c' = word_bytes-and (n / 2 ^ 32) ∙ c in
    let d' = word_bytes-and n in
    λ i. a i ++ b' i ++ c' i ++ d' i
