-- The words of a schedule's random bytes, one after another.
use Rattle.std.proofs.Common.{◌≡◌, ℕ, suc, ◌+◌, ◌%◌, ◌^◌, ◌<◌, ◌++◌, List, refl, ap, sym, ◌∙◌, arith, mod-eq_of_lt, ◌≤◌, length, take, drop, length-append, length-drop, take-append-drop}
use Rattle.std.specs.Int.{w32, to_le_bytes}
use Rattle.rand_chacha.specs.ChaCha.{ChaCha, key_of, next_word, word_at}
use Rattle.schedule_text.specs.Draws.{draw_word, key_bytes, words_from}

-- one word more
words_suc : (seed place count : ℕ) → words_from seed place (suc count) ≡ words_from seed place count ++ to_le_bytes w32 (draw_word seed (place + count))
unfolding words_from
words_suc seed place count = refl

pub words_more : (seed place count word : ℕ) → word ≡ draw_word seed (place + count) →
    words_from seed place (count + 1) ≡ words_from seed place count ++ to_le_bytes w32 word
words_more seed place count word is =
    let next : count + 1 ≡ suc count = omega arith in
    ap (words_from seed place) next ∙ (words_suc seed place count ∙ ap (λ w. words_from seed place count ++ to_le_bytes w32 w) (sym is))

-- the word that a generator gives at a place
pub word_there : (seed place : ℕ) (g : ChaCha) → g.key ≡ key_of (key_bytes seed) → g.stream ≡ 0 → g.word_pos ≡ place → (next_word 10 g).0 ≡ draw_word seed place
unfolding draw_word
word_there seed place g key stream at =
    ap (λ k. word_at 10 k g.stream g.word_pos) key
    ∙ (ap (λ s. word_at 10 (key_of (key_bytes seed)) s g.word_pos) stream ∙ ap (word_at 10 (key_of (key_bytes seed)) 0) at)

-- the next place
pub place_there : (place : ℕ) (g : ChaCha) → g.word_pos ≡ place → place + 1 < 2 ^ 68 → (next_word 10 g).1.word_pos ≡ place + 1
place_there place g at small = ap (λ p. (p + 1) % 2 ^ 68) at ∙ mod-eq_of_lt small

-- what was written over leaves the length
pub same_long : (m : ℕ) (before now front : List ℕ) → take m now ≡ front → length front ≡ m → drop m now ≡ drop m before → m ≤ length before → length now ≡ length before
same_long m before now front written size rest within =
    omega (arith, ap length (take-append-drop m now), length-append (take m now) (drop m now), ap length written, size, ap length rest, length-drop m before, within)
