use Rattle.route_table.proofs.Learning.{sound_kept}
use Rattle.route_table.proofs.RouteTable.add.Goals as goal

pub invariant_of-self-2 : goal.invariant_of-self-2
invariant_of-self-2 c =
    rw (c.judge_again.ensures, c.deref.ensures.value) (sound_kept c.push.new.self.items c.self.inside.hosts.items c.self.invariant.few)
