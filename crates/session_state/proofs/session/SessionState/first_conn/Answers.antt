use Rattle.std.proofs.Common.{Some, None, sym, ◌∙◌}
use Rattle.session_state.specs.Standing.{PeerStands}
use Rattle.session_state.proofs.Seen.{first_is}
use Rattle.session_state.proofs.session.SessionState.first_conn.Goals as goal

pub returns-in-None : goal.returns-in-None
unfolding PeerStands
returns-in-None g c = λ p stands. first_is p None (sym c.in-None.is ∙ c.at.ensures p.sessions stands.slots_stand)

pub returns-in-Some : goal.returns-in-Some
unfolding PeerStands
returns-in-Some g c = λ p stands. first_is p (Some c.in-Some.seen) (sym c.in-Some.is ∙ c.at.ensures p.sessions stands.slots_stand)
