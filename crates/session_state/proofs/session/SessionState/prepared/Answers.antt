use Rattle.std.proofs.Common.{◌∙◌}
use Rattle.session_state.specs.Standing.{PeerStands}
use Rattle.session_state.proofs.Waits.{keyed_none, named_message, named_of, newest_at, newest_number_is, opening_none}
use Rattle.session_state.proofs.session.SessionState.prepared.Goals as goal

pub returns-in-Opening : goal.returns-in-Opening
unfolding PeerStands
returns-in-Opening g c = λ p stands. opening_none p c.newest-newest.result (newest_at p.sessions c.newest-newest.result (c.newest-newest.ensures.seen p.sessions stands.slots_stand)) c.in-Opening.is

pub returns-in-Named : goal.returns-in-Named
unfolding PeerStands
returns-in-Named g c = λ p stands.
    let at = newest_at p.sessions c.newest-newest.result (c.newest-newest.ensures.seen p.sessions stands.slots_stand) in
    let named = named_of p c.newest-newest.result at c.in-Named.is in
    c.whole_message.ensures p at.session stands (newest_number_is p.sessions c.newest-newest.result at) named ∙ named_message p c.newest-newest.result at named

pub returns-in-Keyed : goal.returns-in-Keyed
unfolding PeerStands
returns-in-Keyed g c = λ p stands. keyed_none p c.newest-newest.result (newest_at p.sessions c.newest-newest.result (c.newest-newest.ensures.seen p.sessions stands.slots_stand)) c.in-Keyed.is
