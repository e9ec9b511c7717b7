use Rattle.std.proofs.Common.{arith, subst, sym, ◌∙◌}
use Rattle.control_link.specs.Links.{KeptLink, LinkStands}
use Rattle.control_link.proofs.Leaving.{sides_of}
use Rattle.control_link.proofs.Reading.{count_here, taken_before}
use Rattle.control_link.proofs.link.ControlLinkControlText.read_count.Goals as goal

pub returns : goal.returns
returns c = λ l stands.
    let sides = sides_of _ l (subst (λ (k : KeptLink). LinkStands k l) (sym c.self.view_is) stands) in
    c.read_count.ensures.exact l.receiving sides.receiving ∙ sym (count_here l.receiving.read l.receiving.taken 0 (λ id less from. taken_before _ l.receiving sides.receiving id (omega (arith, less))))
