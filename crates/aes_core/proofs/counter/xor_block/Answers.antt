use Rattle.std.proofs.Common.{◌++◌, ◌∙◌, refl, arith}
use Rattle.aes_core.specs.internal.Words.{word_bytes}
use Rattle.aes_core.proofs.InPlace.{xor_at-append}
use Rattle.aes_core.proofs.counter.xor_block.Goals as goal

pub returns : goal.returns
returns c =
    let bytes = c.args.bytes.now in
    let block = c.args.block in
    let at = c.args.at in
    let two = c.xor_word-2.ensures
    ∙ xor_at-append bytes (word_bytes block.a) (word_bytes block.b) _ at 4 refl (omega arith) c.xor_word.ensures in
    let three = c.xor_word-3.ensures
    ∙ xor_at-append bytes (word_bytes block.a ++ word_bytes block.b) (word_bytes block.c) _ at 8 refl (omega arith) two in
    c.xor_word-4.ensures
    ∙ xor_at-append bytes (word_bytes block.a ++ word_bytes block.b ++ word_bytes block.c) (word_bytes block.d) _ at 12 refl (omega arith) three
