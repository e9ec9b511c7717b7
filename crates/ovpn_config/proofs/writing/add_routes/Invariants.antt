use Rattle.std.proofs.Common.{◌≡◌, ◌++◌, drop}
use Rattle.std.specs.Prelude.{codes, map}
use Rattle.ovpn_config.specs.Printed.{with_network}
use Rattle.ovpn_config.specs.Canonical.{lines_with}
use Rattle.ovpn_config.proofs.writing.add_routes.Given as goal

-- those so far are written
abbrev pub invariant-routes : goal.invariant-routes
invariant-routes l =
    l.out.items ++ lines_with (map (with_network (codes "route")) (drop l.i l.routes)) ≡ l.initial.out.items ++ lines_with (map (with_network (codes "route")) l.routes)
