use Rattle.std.proofs.Common.{ap, get_or, ◌∙◌, arith}
use Rattle.aes_core.specs.internal.Words.{word_bytes}
use Rattle.aes_core.proofs.TableEntries.{mixed_at}
use Rattle.aes_core.proofs.tables.mixed_row0.Goals as goal

pub returns : goal.returns
returns c =
    ap (λ xs. word_bytes (get_or xs c.args.byte 0)) c.round_table.ensures
    ∙ mixed_at c.args.byte 0 c.args.byte (omega arith) (omega arith) (omega arith)
