use Rattle.std.proofs.Common.{sym, ◌∙◌}
use Rattle.session_state.specs.Standing.{PeerStands}
use Rattle.session_engine.proofs.NextTurns.{keyed_bad, named_bad, named_seen, none_bad, opening_bad, seen_there}
use Rattle.session_engine.proofs.turns.bad_at.Goals as goal

pub returns-in-None-clause-turn : goal.returns-in-None-clause-turn
unfolding PeerStands
returns-in-None-clause-turn g c = λ p stands. none_bad p c.args.number (sym c.in-None.is ∙ c.at.ensures p.sessions stands.slots_stand)

pub returns-in-Opening-clause-turn : goal.returns-in-Opening-clause-turn
unfolding PeerStands
returns-in-Opening-clause-turn g c = λ p stands.
    opening_bad p c.args.number c.in-Some.seen (sym c.in-Some.is ∙ c.at.ensures p.sessions stands.slots_stand) c.in-Opening.is

pub returns-in-Named-clause-turn : goal.returns-in-Named-clause-turn
unfolding PeerStands
returns-in-Named-clause-turn g c = λ p stands.
    let at = seen_there p.sessions c.args.number c.in-Some.seen (sym c.in-Some.is ∙ c.at.ensures p.sessions stands.slots_stand) in
    let named = named_seen p c.args.number c.in-Some.seen at c.in-Named.is in
    c.bad_message.ensures.turn p at.session stands at.here named ∙ named_bad p c.args.number at.session at.here named

pub returns-in-Keyed-clause-turn : goal.returns-in-Keyed-clause-turn
unfolding PeerStands
returns-in-Keyed-clause-turn g c = λ p stands.
    keyed_bad p c.args.number c.in-Some.seen (sym c.in-Some.is ∙ c.at.ensures p.sessions stands.slots_stand) c.in-Keyed.is
