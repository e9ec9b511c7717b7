use Rattle.std.proofs.Common.{sym, ◌∙◌}
use Rattle.std.specs.Prelude.{codes}
use Rattle.ovpn_config.specs.Printed.{with_network}
use Rattle.ovpn_config.proofs.Lined.{lines_more_of}
use Rattle.ovpn_config.proofs.writing.add_routes.Goals as goal

pub routes-preserved : goal.routes-preserved
routes-preserved c =
    sym (lines_more_of (with_network (codes "route")) c.routes.out.items c.add_network.new.out.items c.args.routes.now c.routes.i c.in-Some.network (sym c.in-Some.ensures)
    c.in_ok-add_network.ensures)
    ∙ c.routes.invariant
