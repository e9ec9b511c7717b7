use Rattle.std.proofs.Common.{refl}
use Rattle.server_table.specs.Establishing.{reply}
use Rattle.server_texts.proofs.laws.replies_are_planned.Goals as goal

pub returns-clause-reply : goal.returns-clause-reply
unfolding reply
returns-clause-reply c = λ s x a conn. refl
