use Rattle.std.proofs.Common.{List, sym, subst}
use Rattle.packet_ids.specs.declared.places.Place.{Place}
use Rattle.packet_ids.specs.Freshness.{begun}
use Rattle.packet_ids.specs.Window.{Stands}
use Rattle.packet_ids.proofs.Standing.{stands_begun}
use Rattle.packet_ids.proofs.windows.Window.begun.Goals as goal

pub returns-clause-stands : goal.returns-clause-stands
returns-clause-stands c =
    subst (λ (k : List Place). Stands (record { width = c.args.n; seconds = c.args.t; stamp = 0; greatest = 0; places = k }) (begun c.args.n c.args.t)) (sym c.in_ok-places.ensures)
    (stands_begun c.args.n c.args.t c.requires)
