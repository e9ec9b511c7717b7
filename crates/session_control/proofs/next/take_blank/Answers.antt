use Rattle.std.proofs.Common.{sym, subst, ◌∙◌}
use Rattle.session_state.specs.Standing.{BlankIsFor}
use Rattle.session_control.proofs.Beginning.{blank_count, blank_of, blank_stands, goes_with_blank}
use Rattle.session_control.proofs.next.take_blank.Goals as goal

pub returns-in-Some-clause-same : goal.returns-in-Some-clause-same
returns-in-Some-clause-same g c = λ p stands. blank_stands g.W.Wrap.wrapped c.args.session.now c.take.new.self p stands

pub returns-in-Some-clause-goes_on : goal.returns-in-Some-clause-goes_on
returns-in-Some-clause-goes_on g c = goes_with_blank c.args.session.now c.take.new.self c.requires.goes_on
    (subst (λ o. BlankIsFor o c.args.session.now.timers) (sym c.take.ensures.after) tt)

pub returns-in-Some-clause-blank_for : goal.returns-in-Some-clause-blank_for
returns-in-Some-clause-blank_for g c = blank_of c.args.session.now c.in-Some.blank c.requires.goes_on (sym c.take.ensures.value ∙ c.in-Some.is)

pub returns-in-Some-clause-count : goal.returns-in-Some-clause-count
returns-in-Some-clause-count g c = blank_count c.args.session.now c.take.new.self
