use Rattle.std.proofs.Common.{ap, sym, ◌∙◌}
use Rattle.std.specs.Prelude.{slice_get}
use Rattle.session_state.specs.Standing.{PeerStands}
use Rattle.session_state.specs.internal.OpenOnes.{unread_among}
use Rattle.session_state.proofs.OpenPlaces.{unread_is}
use Rattle.session_state.proofs.session.SessionState.unread.Goals as goal

pub returns : goal.returns
unfolding PeerStands
returns g c = λ p stands.
    c.unread_among.ensures p stands
    ∙ ap (unread_among (slice_get p.sessions)) (c.as_slice.ensures.now ∙ c.of-numbers.ensures p.sessions stands.slots_stand)
    ∙ sym (unread_is p.sessions)
