use Rattle.std.proofs.Common.{subst, sym}
use Rattle.control_link.specs.Links.{KeptLink, LinkStands}
use Rattle.control_link.proofs.Leaving.{sides_of, with_receiving}
use Rattle.control_link.proofs.Reading.{same_kept}
use Rattle.control_link.proofs.link.ControlLink.reserve_payload.Goals as goal

pub returns-clause-same : goal.returns-clause-same
returns-clause-same c = λ l stands.
    let before = subst (λ (k : KeptLink). LinkStands k l) (sym c.self.view_is) stands in
    with_receiving _ l _ l.receiving before (same_kept _ _ l.receiving c.reserve.ensures.same (sides_of _ l before).receiving)
