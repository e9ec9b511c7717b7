use Rattle.std.proofs.Common.{◌∙◌}
use Rattle.aes_core.specs.Cipher.{mixed_column}
use Rattle.aes_core.specs.Field.{xor_bytes}
use Rattle.aes_core.specs.SBox.{sbox}
use Rattle.aes_core.specs.internal.Words.{word_bytes}
use Rattle.aes_core.proofs.Columns.{column_but_1}
use Rattle.aes_core.proofs.shared.column_but_row1.Goals as goal

pub returns : goal.returns
returns c = λ x.
    column_but_1 c.mixed_row0.result c.mixed_row2.result c.mixed_row3.result c.args.key _ _ _ x c.mixed_row0.ensures c.mixed_row2.ensures c.mixed_row3.ensures
    ∙ (λ i. xor_bytes (mixed_column (sbox (c.byte3.ensures i)) x (sbox (c.byte1.ensures i)) (sbox (c.byte0.ensures i))) (word_bytes c.args.key))
