-- The key schedule, word by word.
use Rattle.std.proofs.Common.{◌≡◌, ℕ, ◌+◌, ◌-◌, ◌*◌, ◌/◌, ◌%◌, ◌<◌, ◌≤◌, true, false, nat_lt, List, [], ◌∷◌, ◌++◌, length, bit_xor, get_or, set, take, drop, refl, sym, ap, ◌∙◌, arith, add-one, rules}
use Rattle.std.specs.Prelude.{map, flat_map, if◌then◌else◌}
use Rattle.aes_core.specs.Field.{xor_bytes}
use Rattle.aes_core.specs.KeyExpansion.{added_word, key_length, key_words, next_word, rcon, rot_word, sub_word, word_at}
use Rattle.aes_core.specs.internal.Words.{word_bytes}
use Rattle.aes_core.proofs.RoundSteps.{word_of}
use Rattle.aes_core.proofs.WordBytes.{word_bytes-xor}
use Rattle.std.proofs.lemmas.List.{map-append}
use Rattle.std.proofs.Math.Seq.{take-add}
use Rattle.std.proofs.lemmas.Grind.{flat_map-append, take-set_at}

-- one more word
pub key_words-next : (key : List ℕ) (n : ℕ) → key_words key (n + 1) ≡ key_words key n ++ next_word key (key_words key n) n ∷ []
unfolding key_words
key_words-next key n = rw add-one refl

-- a word of the key
pub next_word_first : (key : List ℕ) (words : List (List ℕ)) (n : ℕ) → n < key_length key → next_word key words n ≡ take 4 (drop (4 * n) key)
next_word_first key words n h =
    let yes : nat_lt n (length key / 4) ≡ true = search (rules, h) in
    ap (λ b. if b then take 4 (drop (4 * n) key) else xor_bytes (word_at words (n - key_length key)) (added_word (key_length key) (word_at words (n - 1)) n)) yes

-- a word after the key
pub next_word_later : (key : List ℕ) (words : List (List ℕ)) (n : ℕ) → key_length key ≤ n
    → next_word key words n ≡ xor_bytes (word_at words (n - key_length key)) (added_word (key_length key) (word_at words (n - 1)) n)
next_word_later key words n h =
    let no : nat_lt n (length key / 4) ≡ false = search (rules, h) in
    ap (λ b. if b then take 4 (drop (4 * n) key) else xor_bytes (word_at words (n - key_length key)) (added_word (key_length key) (word_at words (n - 1)) n)) no

-- a word is written behind the words so far
pub words_next : (key words : List ℕ) (n word : ℕ) → n < length words → map word_bytes (take n words) ≡ key_words key n
    → word_bytes word ≡ next_word key (key_words key n) n
    → map word_bytes (take (n + 1) (set words n word)) ≡ key_words key (n + 1)
words_next key words n word lt held is =
    ap (map word_bytes) (take-set_at words n (n + 1) word (omega arith) lt)
    ∙ map-append word_bytes (take n words) (word ∷ [])
    ∙ (λ i. held i ++ is i ∷ []) ∙ sym (key_words-next key n)

-- where the remainder is 0
pub added_word_first : (nk : ℕ) (previous : List ℕ) (i : ℕ) → i % nk ≡ 0 → added_word nk previous i ≡ xor_bytes (sub_word (rot_word previous)) (rcon (i / nk))
added_word_first nk previous i h = search (rules, h)

-- the bytes of the words grow by those of one more word
pub bytes_next : (key words : List ℕ) (n word : ℕ) → n < length words → flat_map word_bytes (take n words) ≡ take (4 * n) key
    → word_bytes word ≡ take 4 (drop (4 * n) key)
    → flat_map word_bytes (take (n + 1) (set words n word)) ≡ take (4 * (n + 1)) key
bytes_next key words n word lt held is =
    let next : 4 * n + 4 ≡ 4 * (n + 1) = omega arith in
    ap (flat_map word_bytes) (take-set_at words n (n + 1) word (omega arith) lt)
    ∙ flat_map-append word_bytes (take n words) (word ∷ [])
    ∙ (λ i. held i ++ is i) ∙ sym (take-add (4 * n) 4 key) ∙ ap (λ k. take k key) next

-- a word after the key, from the words so far
pub later_word : (key words : List ℕ) (n added : ℕ) → n ≤ length words → key_length key ≤ n → 1 ≤ key_length key → map word_bytes (take n words) ≡ key_words key n
    → word_bytes added ≡ added_word (key_length key) (word_bytes (get_or words (n - 1) 0)) n
    → word_bytes (bit_xor (get_or words (n - key_length key) 0) added) ≡ next_word key (key_words key n) n
later_word key words n added le late some held is =
    let far = sym (word_of words n (n - key_length key) le (omega arith)) ∙ ap (λ ws. word_at ws (n - key_length key)) held in
    let near = sym (word_of words n (n - 1) le (omega arith)) ∙ ap (λ ws. word_at ws (n - 1)) held in
    word_bytes-xor (get_or words (n - key_length key) 0) added
    ∙ (λ i. xor_bytes (far i) (is i))
    ∙ ap (λ previous. xor_bytes (word_at (key_words key n) (n - key_length key)) (added_word (key_length key) previous n)) near
    ∙ sym (next_word_later key (key_words key n) n late)
