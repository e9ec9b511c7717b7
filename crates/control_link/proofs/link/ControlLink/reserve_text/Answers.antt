use Rattle.std.proofs.Common.{subst, sym}
use Rattle.control_link.specs.Links.{KeptLink, LinkStands}
use Rattle.control_link.proofs.Leaving.{sides_of, with_sending}
use Rattle.control_link.proofs.link.ControlLink.reserve_text.Goals as goal

pub returns-clause-same : goal.returns-clause-same
returns-clause-same c = λ l stands.
    let before = subst (λ (k : KeptLink). LinkStands k l) (sym c.self.view_is) stands in
    with_sending _ l _ l.sending before (c.reserve.ensures.stands l.sending (sides_of _ l before).sending)
