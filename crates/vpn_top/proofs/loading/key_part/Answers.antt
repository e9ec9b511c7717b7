use Rattle.vpn_top.proofs.Fronts.{front_least}
use Rattle.vpn_top.proofs.loading.key_part.Goals as goal

pub returns-clause-part : goal.returns-clause-part
returns-clause-part c = front_least c.min.result 65536 c.args.block.now c.min.ensures
