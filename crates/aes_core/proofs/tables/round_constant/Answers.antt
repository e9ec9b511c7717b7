use Rattle.std.proofs.Common.{ap, get_or, ◌∙◌, ◌-◌, arith}
use Rattle.aes_core.proofs.TableEntries.{constant_at}
use Rattle.aes_core.proofs.tables.round_constant.Goals as goal

pub returns : goal.returns
returns c = ap (λ xs. get_or xs (c.args.i - 1) 0) c.constant_table.ensures ∙ constant_at (c.args.i - 1) (omega arith)
