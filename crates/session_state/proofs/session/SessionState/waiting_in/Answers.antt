use Rattle.std.proofs.Common.{ap, sym, ◌∙◌}
use Rattle.std.specs.Prelude.{slice_get}
use Rattle.session_state.specs.Standing.{PeerStands}
use Rattle.session_state.specs.internal.OpenOnes.{waiting_among}
use Rattle.session_state.proofs.OpenPlaces.{waiting_is}
use Rattle.session_state.proofs.Waits.{waiting_first}
use Rattle.session_state.proofs.session.SessionState.waiting_in.Goals as goal

pub returns : goal.returns
unfolding PeerStands
returns g c = λ p stands.
    c.waiting_among.ensures p stands
    ∙ ap (waiting_among (slice_get p.sessions)) (c.as_slice.ensures.now ∙ c.of-numbers.ensures p.sessions stands.slots_stand)
    ∙ sym (waiting_first p ∙ waiting_is p.sessions)
