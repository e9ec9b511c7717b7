use Rattle.std.proofs.Common.{[], ◌∷◌, ap, ◌∙◌, arith, sym}
use Rattle.aes_core.specs.Field.{xor_bytes}
use Rattle.aes_core.specs.KeyExpansion.{rot_word, sub_word}
use Rattle.aes_core.specs.internal.Words.{word_bytes}
use Rattle.aes_core.proofs.Expansion.{added_word_first}
use Rattle.aes_core.proofs.WordBytes.{word_bytes-xor, word_bytes_of}
use Rattle.aes_core.proofs.schedule.added_word.Goals as goal

pub returns-then-i-key_len-eq0 : goal.returns-then-i-key_len-eq0
returns-then-i-key_len-eq0 c =
    let constant = word_bytes_of c.from_be_bytes.result c.round_constant.result 0 0 0
    (omega (arith, c.round_constant.type_inv)) (omega arith) (omega arith) (omega arith) c.from_be_bytes.ensures in
    let word = c.sub_word.ensures ∙ ap sub_word c.rot_word.ensures in
    word_bytes-xor c.sub_word.result c.from_be_bytes.result
    ∙ (λ i. xor_bytes (word i) (constant i))
    ∙ ap (λ k. xor_bytes (sub_word (rot_word (word_bytes c.args.previous))) (k ∷ 0 ∷ 0 ∷ 0 ∷ [])) c.round_constant.ensures
    ∙ sym (added_word_first c.args.key_len (word_bytes c.args.previous) c.args.i c.if-i-key_len-eq0.true)
