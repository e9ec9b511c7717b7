use Rattle.std.proofs.Common.{sym, ◌∙◌}
use Rattle.session_state.specs.Standing.{PeerStands}
use Rattle.session_state.proofs.Waits.{message_is, no_message, waiting_at}
use Rattle.session_state.proofs.session.SessionState.next_message.Goals as goal

pub returns-in-None : goal.returns-in-None
unfolding PeerStands
returns-in-None g c = λ p stands. no_message p (sym c.in-None.is ∙ c.waiting_in.ensures p stands)

pub returns-in-Some : goal.returns-in-Some
unfolding PeerStands
returns-in-Some g c = λ p stands.
    let here = sym c.in-Some.is ∙ c.waiting_in.ensures p stands in
    let there = waiting_at p c.in-Some.number here in
    c.message_at.ensures p there.session stands there.here there.passes_it ∙ message_is p c.in-Some.number there.session here there.here
