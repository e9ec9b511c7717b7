use Rattle.std.proofs.Common.{arith}
use Rattle.aes_core.proofs.WordBytes.{word_bytes_from}
use Rattle.aes_core.proofs.words.load_word.Goals as goal

pub returns : goal.returns
returns c =
    word_bytes_from c.args.bytes.now c.args.at _ (omega arith) (λ i. omega (arith, c.type_inv.bytes i)) c.from_be_bytes.ensures
