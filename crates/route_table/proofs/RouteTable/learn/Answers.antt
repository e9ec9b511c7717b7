use Rattle.std.proofs.Common.{◌≡◌, Some, ap, ◌∙◌}
use Rattle.route_table.specs.Owner.{owner}
use Rattle.route_table.specs.Learned.{Contents}
use Rattle.route_table.proofs.Learning.{sound_learnt}
use Rattle.route_table.proofs.RouteTable.learn.Goals as goal

pub invariant_of-self-2 : goal.invariant_of-self-2
invariant_of-self-2 c =
    let owned : owner c.self.inside.rows.items c.args.host ≡ Some c.args.cid = ap (λ (t : Contents). owner t.rows c.args.host) c.self.view_is ∙ c.requires in
    rw (c.put_in_front.ensures, c.in_ok-make_room.ensures.same)
    (sound_learnt c.self.inside.rows.items c.self.inside.hosts.items c.args.host c.args.cid c.self.invariant owned)
