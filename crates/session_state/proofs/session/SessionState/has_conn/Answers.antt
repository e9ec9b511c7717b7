use Rattle.std.proofs.Common.{ap, ◌∙◌}
use Rattle.std.specs.Prelude.{is_some}
use Rattle.session_state.specs.Standing.{PeerStands}
use Rattle.session_state.proofs.session.SessionState.has_conn.Goals as goal

pub returns : goal.returns
unfolding PeerStands
returns g c = λ p stands. c.is_some.ensures ∙ ap is_some (c.open_with.ensures p stands.slots_stand)
