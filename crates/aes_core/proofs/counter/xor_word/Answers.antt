use Rattle.std.proofs.Common.{◌≡◌, suc, ◌+◌, ◌++◌, bit_xor, get_or, set, take, drop, refl, ap, ◌∙◌, arith, length-drop}
use Rattle.aes_core.specs.Field.{xor_bytes}
use Rattle.aes_core.specs.internal.Words.{word_bytes}
use Rattle.aes_core.proofs.InPlace.{set_four, xor_bytes-front}
use Rattle.aes_core.proofs.WordBytes.{word_bytes-xor}
use Rattle.aes_core.proofs.counter.xor_word.Goals as goal

pub returns : goal.returns
returns c =
    let bytes = c.args.bytes.now in
    let at = c.args.at in
    let bs = word_bytes (bit_xor c.load_word.result c.args.word) in
    let one : at + 1 ≡ suc at = omega arith in
    let two : at + 2 ≡ suc (suc at) = omega arith in
    let three : at + 3 ≡ suc (suc (suc at)) = omega arith in
    let sum = word_bytes-xor c.load_word.result c.args.word ∙ ap (λ r. xor_bytes r (word_bytes c.args.word)) c.load_word.ensures in
    (λ i.
    let b = c.to_be_bytes.ensures i in
    set (set (set (set bytes at (get_or b 0 0)) (one i) (get_or b 1 0)) (two i) (get_or b 2 0)) (three i) (get_or b 3 0))
    ∙ set_four bytes at (get_or bs 0 0) (get_or bs 1 0) (get_or bs 2 0) (get_or bs 3 0) (omega arith)
    ∙ ap (λ r. take at bytes ++ (r ++ drop 4 (drop at bytes))) sum
    ∙ ap (λ r. take at bytes ++ r)
    (xor_bytes-front (drop at bytes) (word_bytes c.args.word) 4 refl (omega (arith, length-drop at bytes)))
