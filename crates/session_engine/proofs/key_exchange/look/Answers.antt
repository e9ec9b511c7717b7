use Rattle.std.proofs.Common.{ap, sym, ◌∙◌}
use Rattle.std.specs.Prelude.{option_map}
use Rattle.key_sessions.specs.declared.slot.Newest.{Newest}
use Rattle.session_state.specs.Standing.{PeerStands}
use Rattle.session_engine.specs.internal.Exchanges.{prepared_as}
use Rattle.session_engine.proofs.ExchangeSteps.{whatever_some}
use Rattle.session_state.proofs.Waits.{keyed_none, named_message, named_of, newest_at, newest_number_is, opening_none}
use Rattle.session_engine.proofs.key_exchange.look.Goals as goal

pub returns-in-Opening-clause-looked : goal.returns-in-Opening-clause-looked
unfolding PeerStands
returns-in-Opening-clause-looked g c = λ p stands. ap (option_map (prepared_as c.args.policy.now p))
    (opening_none p c.newest-newest.result (newest_at p.sessions c.newest-newest.result (c.newest-newest.ensures.seen p.sessions stands.slots_stand)) c.in-Opening.is)

pub returns-in-Named-clause-looked : goal.returns-in-Named-clause-looked
unfolding PeerStands
returns-in-Named-clause-looked g c = λ p stands.
    let at = newest_at p.sessions c.newest-newest.result (c.newest-newest.ensures.seen p.sessions stands.slots_stand) in
    let named = named_of p c.newest-newest.result at c.in-Named.is in
    c.look_in.ensures p at.session stands (newest_number_is p.sessions c.newest-newest.result at) named (ap (λ (r : Newest). r.number) at.seen_so)
    ∙ ap (option_map (prepared_as c.args.policy.now p)) (named_message p c.newest-newest.result at named)

pub returns-in-Named-clause-named : goal.returns-in-Named-clause-named
returns-in-Named-clause-named g c = whatever_some c.look_in.result _ (sym c.newest-newest.ensures.stage ∙ c.in-Named.is)

pub returns-in-Keyed-clause-looked : goal.returns-in-Keyed-clause-looked
unfolding PeerStands
returns-in-Keyed-clause-looked g c = λ p stands. ap (option_map (prepared_as c.args.policy.now p))
    (keyed_none p c.newest-newest.result (newest_at p.sessions c.newest-newest.result (c.newest-newest.ensures.seen p.sessions stands.slots_stand)) c.in-Keyed.is)
