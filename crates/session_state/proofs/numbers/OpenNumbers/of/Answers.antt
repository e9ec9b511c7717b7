use Rattle.std.proofs.Common.{ap, ◌∙◌}
use Rattle.std.proofs.Common.{arith}
use Rattle.session_state.proofs.OpenPlaces.{listed_number, none_of, number_of, one_of, two_of, three_of}
use Rattle.session_state.proofs.numbers.OpenNumbers.of.Goals as goal

pub returns-in-None : goal.returns-in-None
returns-in-None c = λ ss stands. none_of _ (listed_number ss 0 c.open_at.result (c.open_at.ensures.listed ss stands) ∙ ap number_of c.in-None.is)

pub returns-in-None-open_at : goal.returns-in-None-open_at
returns-in-None-open_at c = λ ss stands. one_of _ c.in-Some.number
    (listed_number ss 0 c.open_at.result (c.open_at.ensures.listed ss stands) ∙ ap number_of c.in-Some.is)
    (listed_number ss 1 c.open_at-2.result (c.open_at-2.ensures.listed ss stands) ∙ ap number_of c.in-None-open_at.is)

pub returns-in-None-open_at-2 : goal.returns-in-None-open_at-2
returns-in-None-open_at-2 c = λ ss stands. two_of _ c.in-Some.number c.in-Some-open_at.number
    (listed_number ss 0 c.open_at.result (c.open_at.ensures.listed ss stands) ∙ ap number_of c.in-Some.is)
    (listed_number ss 1 c.open_at-2.result (c.open_at-2.ensures.listed ss stands) ∙ ap number_of c.in-Some-open_at.is)
    (listed_number ss 2 c.open_at-3.result (c.open_at-3.ensures.listed ss stands) ∙ ap number_of c.in-None-open_at-2.is)

pub returns : goal.returns
returns c = λ ss stands. three_of _ c.in-Some.number c.in-Some-open_at.number c.in-Some-open_at-2.number
    (listed_number ss 0 c.open_at.result (c.open_at.ensures.listed ss stands) ∙ ap number_of c.in-Some.is)
    (listed_number ss 1 c.open_at-2.result (c.open_at-2.ensures.listed ss stands) ∙ ap number_of c.in-Some-open_at.is)
    (listed_number ss 2 c.open_at-3.result (c.open_at-3.ensures.listed ss stands) ∙ ap number_of c.in-Some-open_at-2.is)
    (listed_number ss 3 c.open_at-4.result (c.open_at-4.ensures.listed ss stands) ∙ ap number_of (c.open_at-4.ensures.few ss stands (omega arith)))
