use Rattle.std.proofs.Common.{◌∙◌}
use Rattle.session_state.proofs.Keeping.{goes_on_with, same_count, slots_same, whole_of}
use Rattle.session_state.proofs.session.SessionState.make_next.Goals as goal

pub returns-in-Ok-reserve-clause-same : goal.returns-in-Ok-reserve-clause-same
returns-in-Ok-reserve-clause-same g c = λ p stands. slots_same g.W.Wrap.wrapped c.make_blank.new.self c.reserve.new.self p (c.make_blank.ensures.same p stands)
    (c.reserve.ensures.stands p.sessions) c.reserve.ensures.whole

pub returns-in-Ok-reserve-clause-goes_on : goal.returns-in-Ok-reserve-clause-goes_on
returns-in-Ok-reserve-clause-goes_on g c = goes_on_with c.make_blank.new.self c.reserve.new.self c.make_blank.ensures.goes_on
    (c.reserve.ensures.whole (whole_of c.make_blank.new.self c.make_blank.ensures.goes_on))

pub returns-in-Ok-reserve-clause-count : goal.returns-in-Ok-reserve-clause-count
returns-in-Ok-reserve-clause-count g c = same_count c.make_blank.new.self c.reserve.new.self c.reserve.ensures.number ∙ c.make_blank.ensures.count

pub returns-in-Err-reserve-clause-same : goal.returns-in-Err-reserve-clause-same
returns-in-Err-reserve-clause-same g c = λ p stands. slots_same g.W.Wrap.wrapped c.make_blank.new.self c.reserve.new.self p (c.make_blank.ensures.same p stands)
    (c.reserve.ensures.stands p.sessions) c.reserve.ensures.whole

pub returns-in-Err-reserve-clause-goes_on : goal.returns-in-Err-reserve-clause-goes_on
returns-in-Err-reserve-clause-goes_on g c = goes_on_with c.make_blank.new.self c.reserve.new.self c.make_blank.ensures.goes_on
    (c.reserve.ensures.whole (whole_of c.make_blank.new.self c.make_blank.ensures.goes_on))

pub returns-in-Err-reserve-clause-count : goal.returns-in-Err-reserve-clause-count
returns-in-Err-reserve-clause-count g c = same_count c.make_blank.new.self c.reserve.new.self c.reserve.ensures.number ∙ c.make_blank.ensures.count
