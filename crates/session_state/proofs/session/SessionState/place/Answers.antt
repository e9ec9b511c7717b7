use Rattle.std.proofs.Common.{sym, ◌∙◌}
use Rattle.session_state.specs.Standing.{PeerStands}
use Rattle.session_state.proofs.Seen.{placed, placed_none}
use Rattle.session_state.proofs.session.SessionState.place.Goals as goal

pub returns-in-None : goal.returns-in-None
unfolding PeerStands
returns-in-None g c = λ p stands. placed_none p c.args.kid (sym c.in-None.is ∙ c.open_with_kid.ensures p.sessions stands.slots_stand)

pub returns-in-Some : goal.returns-in-Some
unfolding PeerStands
returns-in-Some g c = λ p stands.
    c.place_numbered.ensures p stands ∙ placed p c.args.kid c.in-Some.number (sym c.in-Some.is ∙ c.open_with_kid.ensures p.sessions stands.slots_stand)
