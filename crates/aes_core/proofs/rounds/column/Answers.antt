use Rattle.std.proofs.Common.{ap, ◌∙◌}
use Rattle.aes_core.specs.Cipher.{mixed_column}
use Rattle.aes_core.specs.Field.{xor_bytes}
use Rattle.aes_core.specs.SBox.{sbox}
use Rattle.aes_core.specs.internal.Words.{word_bytes}
use Rattle.aes_core.proofs.Columns.{column_of, xor_reversed}
use Rattle.aes_core.proofs.rounds.column.Goals as goal

pub returns : goal.returns
returns c =
    ap word_bytes (xor_reversed c.mixed_row0.result c.mixed_row1.result c.mixed_row2.result c.mixed_row3.result c.args.key)
    ∙ column_of c.mixed_row0.result c.mixed_row1.result c.mixed_row2.result c.mixed_row3.result c.args.key _ _ _ _
    c.mixed_row0.ensures c.mixed_row1.ensures c.mixed_row2.ensures c.mixed_row3.ensures
    ∙ (λ i.
    xor_bytes
    (mixed_column (sbox (c.byte3.ensures i)) (sbox (c.byte2.ensures i)) (sbox (c.byte1.ensures i)) (sbox (c.byte0.ensures i)))
    (word_bytes c.args.key))
