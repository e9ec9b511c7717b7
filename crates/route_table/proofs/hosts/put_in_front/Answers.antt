use Rattle.std.proofs.Common.{arith}
use Rattle.std.proofs.lemmas.Grind.{common_steps}
use Rattle.route_table.specs.Learned.{learnt}
use Rattle.route_table.proofs.hosts.put_in_front.Goals as goal

pub returns : goal.returns
unfolding learnt
returns c = grind (arith, common_steps)
