use Rattle.session_state.specs.Standing.{PeerStands}
use Rattle.session_state.proofs.session.SessionState.cipher.Goals as goal

pub returns : goal.returns
unfolding PeerStands
returns g c = λ p stands. c.cipher.ensures p stands.slots_stand
