use Rattle.std.proofs.Common.{◌≡◌, true, arith, sym, ◌∙◌}
use Rattle.route_table.specs.Learned.{is_learned}
use Rattle.route_table.proofs.Learning.{others_fewer, others_at_most}
use Rattle.route_table.proofs.hosts.make_room.Goals as goal

pub returns-then-has_host-clause-room : goal.returns-then-has_host-clause-room
returns-then-has_host-clause-room c =
    let there : is_learned c.args.hosts.now.items c.args.a ≡ true = rw c.deref.ensures.value at (sym c.has_host.ensures ∙ c.if-has_host.true) in
    let less = others_fewer c.args.a c.args.hosts.now.items there in
    omega (arith, less, c.args.hosts.now.ok.0)

pub returns-clause-room : goal.returns-clause-room
returns-clause-room c =
    let most = others_at_most c.args.a c.args.hosts.now.items in
    omega (arith, most, c.in_ok-reserve.ensures.ok, c.reserve.ensures.len, c.args.hosts.now.ok.0)
