-- The rounds, one by one, and the round keys in the words of the schedule.
use Rattle.std.proofs.Common.{◌≡◌, ℕ, suc, ◌+◌, ◌-◌, ◌*◌, ◌<◌, ◌≤◌, List, [], ◌++◌, length, get_or, take, refl, sym, ap, ◌∙◌, arith}
use Rattle.std.specs.Prelude.{map}
use Rattle.std.proofs.lemmas.List.{get_or-map, get_or-take, length-take-le}
use Rattle.aes_core.specs.Cipher.{cipher_under, final_round, round, round_key, state_after}
use Rattle.aes_core.specs.Field.{xor_bytes}
use Rattle.aes_core.specs.KeyExpansion.{word_at}
use Rattle.aes_core.specs.internal.Schedule.{schedule_words}
use Rattle.aes_core.specs.internal.SharedRounds.{two_rounds}
use Rattle.aes_core.specs.internal.Words.{four_words, word_bytes}

-- a word of the schedule, from the first n words
pub word_of : (words : List ℕ) (n i : ℕ) → n ≤ length words → i < n → word_at (map word_bytes (take n words)) i ≡ word_bytes (get_or words i 0)
word_of words n i h lt =
    get_or-map word_bytes (take n words) i 0 [] (omega (arith, length-take-le n words h)) ∙ ap word_bytes (get_or-take n words i 0 lt)

-- the round key r stands at word 4 * r
pub round_key_of : (words : List ℕ) (nr r at : ℕ) → 4 * (nr + 1) ≤ length words → r ≤ nr → at ≡ 4 * r
    → four_words words at ≡ round_key (schedule_words words nr) r
round_key_of words nr r at h le e =
    let n : ℕ = 4 * (nr + 1) in
    let a = word_of words n (4 * r) h (omega arith) in
    let b = word_of words n (4 * r + 1) h (omega arith) in
    let c = word_of words n (4 * r + 2) h (omega arith) in
    let d = word_of words n (4 * r + 3) h (omega arith) in
    ap (four_words words) e ∙ sym (λ i. a i ++ b i ++ c i ++ d i)

-- one more round
pub rounds_next : (ws : List (List ℕ)) (input before after key : List ℕ) (n m : ℕ) → m ≡ suc n
    → before ≡ state_after ws input n → after ≡ round before key → key ≡ round_key ws m → after ≡ state_after ws input m
unfolding state_after
rounds_next ws input before after key n m e held is k =
    let k' : key ≡ round_key ws (suc n) = k ∙ ap (round_key ws) e in
    is ∙ (λ i. round (held i) (k' i)) ∙ ap (state_after ws input) (sym e)

-- the state after the first AddRoundKey
pub rounds_none : (ws : List (List ℕ)) (input after key : List ℕ) → after ≡ xor_bytes input key → key ≡ round_key ws 0 → after ≡ state_after ws input 0
unfolding state_after
rounds_none ws input after key is k = is ∙ ap (xor_bytes input) k

-- the last round
pub rounds_last : (ws : List (List ℕ)) (input before after key : List ℕ) (n nr : ℕ) → n ≡ nr - 1
    → before ≡ state_after ws input n → after ≡ final_round before key → key ≡ round_key ws nr → after ≡ cipher_under ws input nr
unfolding cipher_under
rounds_last ws input before after key n nr e held is k =
    let held' : before ≡ state_after ws input (nr - 1) = held ∙ ap (state_after ws input) e in
    is ∙ (λ i. final_round (held' i) (k i))

-- the first two rounds, by the words of the schedule
pub two_rounds_of : (words input after : List ℕ) (nr : ℕ) → 4 * (nr + 1) ≤ length words → 2 ≤ nr
    → after ≡ two_rounds words input → after ≡ state_after (schedule_words words nr) input 2
unfolding two_rounds
two_rounds_of words input after nr h le is =
    let ws : List (List ℕ) = schedule_words words nr in
    let start : List ℕ = xor_bytes input (four_words words 0) in
    let one : List ℕ = round start (four_words words 4) in
    let s0 : start ≡ state_after ws input 0 = rounds_none ws input start (four_words words 0) refl (round_key_of words nr 0 0 h (omega arith) (omega arith)) in
    let s1 : one ≡ state_after ws input 1 = rounds_next ws input start one (four_words words 4) 0 1 (omega arith) s0 refl (round_key_of words nr 1 4 h (omega arith) (omega arith)) in
    rounds_next ws input one after (four_words words 8) 1 2 (omega arith) s1 is (round_key_of words nr 2 8 h (omega arith) (omega arith))
