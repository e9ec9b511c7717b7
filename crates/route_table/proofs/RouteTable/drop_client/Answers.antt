use Rattle.std.proofs.Common.{ap, arith}
use Rattle.route_table.specs.Learned.{Contents}
use Rattle.route_table.proofs.Learning.{sound_kept}
use Rattle.route_table.proofs.RouteTable.drop_client.Goals as goal

pub invariant_of-self : goal.invariant_of-self
invariant_of-self c =
    rw (c.judge_again.ensures, c.deref.ensures.value) (sound_kept c.keep_others.new.rows.items c.self.inside.hosts.items c.self.invariant.few)

pub returns-clause-grows : goal.returns-clause-grows
returns-clause-grows c =
    let spare = ap (λ (t : Contents). t.spare_rows) c.self.view_is in
    omega (arith, spare, c.keep_others.ensures.fewer, c.keep_others.ensures.capacity)
