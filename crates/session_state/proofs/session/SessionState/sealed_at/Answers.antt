use Rattle.std.proofs.Common.{ap, sym, ◌∙◌}
use Rattle.std.specs.Prelude.{is_some}
use Rattle.session_state.specs.Standing.{PeerStands}
use Rattle.session_state.proofs.Keeping.{not_there}
use Rattle.session_state.proofs.session.SessionState.sealed_at.Goals as goal

pub returns-in-None : goal.returns-in-None
unfolding PeerStands
returns-in-None g c = λ p s stands at is_open.
    absurd (not_there p.sessions c.args.number s (ap is_some (sym c.in-None.is) ∙ c.text.ensures.some stands.whole p.sessions stands.slots_stand) at is_open)

pub returns-in-Some : goal.returns-in-Some
unfolding PeerStands
returns-in-Some g c = λ p s stands at is_open. c.last_sealed.ensures s (c.in-Some.ensures.text p.sessions s stands.slots_stand at)
