use Rattle.std.proofs.Common.{◌∙◌}
use Rattle.aes_core.specs.Cipher.{mixed_column}
use Rattle.aes_core.specs.Field.{xor_bytes}
use Rattle.aes_core.specs.SBox.{sbox}
use Rattle.aes_core.specs.internal.Words.{word_bytes}
use Rattle.aes_core.proofs.Columns.{column_but_3}
use Rattle.aes_core.proofs.shared.column_but_row3.Goals as goal

pub returns : goal.returns
returns c = λ x.
    column_but_3 c.mixed_row0.result c.mixed_row1.result c.mixed_row2.result c.args.key _ _ _ x c.mixed_row0.ensures c.mixed_row1.ensures c.mixed_row2.ensures
    ∙ (λ i. xor_bytes (mixed_column (sbox (c.byte3.ensures i)) (sbox (c.byte2.ensures i)) (sbox (c.byte1.ensures i)) x) (word_bytes c.args.key))
