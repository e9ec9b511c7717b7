use Rattle.std.proofs.Common.{◌++◌}
use Rattle.aes_core.proofs.rounds.final_round.Goals as goal

pub returns : goal.returns
returns c = λ i. c.final_column.ensures i ++ c.final_column-2.ensures i ++ c.final_column-3.ensures i ++ c.final_column-4.ensures i
