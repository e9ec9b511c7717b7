use Rattle.std.proofs.Common.{sym, ◌∙◌}
use Rattle.session_state.specs.Standing.{PeerStands}
use Rattle.session_engine.proofs.Names.{keyed_is, named_is, newest_is, opening_is, other_opening}
use Rattle.session_engine.proofs.named.is_opening.Goals as goal

pub returns-then-number-newest-clause-opening : goal.returns-then-number-newest-clause-opening
unfolding PeerStands
returns-then-number-newest-clause-opening g c = λ p s stands at.
    other_opening p.sessions c.newest-newest.result c.args.number s (c.sessions_are_open_without_keys.ensures.orderly p.sessions stands.slots_stand)
    (c.newest-newest.ensures.seen p.sessions stands.slots_stand) at c.if-number-newest.true

pub returns-in-Opening-clause-opening : goal.returns-in-Opening-clause-opening
unfolding PeerStands
returns-in-Opening-clause-opening g c = λ p s stands at.
    opening_is p.sessions c.newest-newest.result c.args.number s (c.newest-newest.ensures.seen p.sessions stands.slots_stand) at c.if-number-newest.false c.in-Opening.is

pub returns-in-Opening-clause-number : goal.returns-in-Opening-clause-number
unfolding PeerStands
returns-in-Opening-clause-number g c = λ p stands is.
    newest_is p.sessions c.newest-newest.result (c.newest-newest.ensures.seen p.sessions stands.slots_stand) ∙ sym c.if-number-newest.false

pub returns-in-Named-clause-opening : goal.returns-in-Named-clause-opening
unfolding PeerStands
returns-in-Named-clause-opening g c = λ p s stands at.
    named_is p.sessions c.newest-newest.result c.args.number s (c.newest-newest.ensures.seen p.sessions stands.slots_stand) at c.if-number-newest.false c.in-Named.is

pub returns-in-Keyed-clause-opening : goal.returns-in-Keyed-clause-opening
unfolding PeerStands
returns-in-Keyed-clause-opening g c = λ p s stands at.
    keyed_is p.sessions c.newest-newest.result c.args.number s (c.newest-newest.ensures.seen p.sessions stands.slots_stand) at c.if-number-newest.false c.in-Keyed.is
