use Rattle.std.proofs.Common.{ap, get_or, ◌∙◌, arith}
use Rattle.aes_core.proofs.TableEntries.{sbox_at}
use Rattle.aes_core.proofs.tables.sbox.Goals as goal

pub returns : goal.returns
returns c = ap (λ xs. get_or xs c.args.byte 0) c.sbox_table.ensures ∙ sbox_at c.args.byte (omega arith)
