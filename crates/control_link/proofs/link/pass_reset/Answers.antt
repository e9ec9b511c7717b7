use Rattle.std.proofs.Common.{sym, ◌∙◌}
use Rattle.control_link.proofs.Reading.{not_passed, passed}
use Rattle.control_link.proofs.link.pass_reset.Goals as goal

pub returns-then-read_count-eq0-clause-stands : goal.returns-then-read_count-eq0-clause-stands
returns-then-read_count-eq0-clause-stands c = λ r stands.
    passed _ r (sym (c.read_count.ensures.exact r stands) ∙ c.if-read_count-eq0.true) (c.next_in_order.ensures.stands r stands)

pub returns-else-read_count-eq0-clause-stands : goal.returns-else-read_count-eq0-clause-stands
returns-else-read_count-eq0-clause-stands c = λ r stands.
    not_passed _ r (λ none. c.if-read_count-eq0.false (c.read_count.ensures.exact r stands ∙ none)) stands
