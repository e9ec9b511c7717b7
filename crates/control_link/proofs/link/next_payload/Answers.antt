use Rattle.std.proofs.Common.{sym, ◌∙◌}
use Rattle.control_link.proofs.Reading.{none_after, none_given, one_after, one_given}
use Rattle.control_link.proofs.link.next_payload.Goals as goal

pub returns-then-read_count-eq0-clause-given : goal.returns-then-read_count-eq0-clause-given
returns-then-read_count-eq0-clause-given c = λ r stands.
    sym (none_given r (sym (c.read_count.ensures.exact r stands) ∙ c.if-read_count-eq0.true))

pub returns-then-read_count-eq0-clause-stands : goal.returns-then-read_count-eq0-clause-stands
returns-then-read_count-eq0-clause-stands c = λ r stands.
    none_after _ r (sym (c.read_count.ensures.exact r stands) ∙ c.if-read_count-eq0.true) stands

pub returns-clause-given : goal.returns-clause-given
returns-clause-given c = λ r stands.
    c.next_in_order.ensures.exact r stands ∙ sym (one_given r (λ none. c.if-read_count-eq0.false (c.read_count.ensures.exact r stands ∙ none)))

pub returns-clause-stands : goal.returns-clause-stands
returns-clause-stands c = λ r stands.
    one_after _ r (λ none. c.if-read_count-eq0.false (c.read_count.ensures.exact r stands ∙ none)) (c.next_in_order.ensures.stands r stands)
