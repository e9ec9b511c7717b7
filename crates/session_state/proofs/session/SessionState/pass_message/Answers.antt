use Rattle.std.proofs.Common.{sym, subst, ◌∙◌}
use Rattle.session_state.specs.Standing.{PeerStands}
use Rattle.session_state.proofs.Waits.{none_passed, one_passed, waiting_at}
use Rattle.session_state.proofs.session.SessionState.pass_message.Goals as goal

pub returns-in-None-clause-passed : goal.returns-in-None-clause-passed
unfolding PeerStands
returns-in-None-clause-passed g c = λ p stands. subst (PeerStands g.W.Wrap.wrapped c.args.self.now) (none_passed p (sym c.in-None.is ∙ c.waiting_in.ensures p stands)) stands

pub returns-in-Some-clause-passed : goal.returns-in-Some-clause-passed
unfolding PeerStands
returns-in-Some-clause-passed g c = λ p stands.
    let here = sym c.in-Some.is ∙ c.waiting_in.ensures p stands in
    let there = waiting_at p c.in-Some.number here in
    subst (PeerStands g.W.Wrap.wrapped c.pass_at.new.self) (one_passed p c.in-Some.number here)
    (c.pass_at.ensures.passed p there.session stands there.here there.passes_it)
