use Rattle.std.proofs.Common.{subst, sym}
use Rattle.control_link.specs.Links.{KeptLink, LinkStands}
use Rattle.control_link.specs.Calls.{after_text, next_text, past_reset}
use Rattle.control_link.proofs.Leaving.{sides_of}
use Rattle.control_link.proofs.link.ControlLink.next_in_order.Goals as goal

pub returns-clause-text : goal.returns-clause-text
unfolding next_text
returns-clause-text c = λ l stands.
    let sides = sides_of _ l (subst (λ (k : KeptLink). LinkStands k l) (sym c.self.view_is) stands) in
    c.next_payload.ensures.given (past_reset l.receiving) (c.pass_reset.ensures.stands l.receiving sides.receiving)

pub returns-clause-stands : goal.returns-clause-stands
unfolding after_text LinkStands
returns-clause-stands c = λ l stands.
    let sides = sides_of _ l (subst (λ (k : KeptLink). LinkStands k l) (sym c.self.view_is) stands) in
    record {
      conn = sides.conn;
      kid = sides.kid;
      first = sides.first;
      sending = sides.sending;
      spent = sides.spent;
      receiving = c.next_payload.ensures.stands (past_reset l.receiving) (c.pass_reset.ensures.stands l.receiving sides.receiving);
    }
