use Rattle.std.proofs.Common.{ap, sym, ◌∙◌}
use Rattle.std.specs.Prelude.{is_some, slice_get}
use Rattle.session_state.specs.Standing.{PeerStands}
use Rattle.session_state.proofs.Waits.{nul_none, nul_some, nul_told, open_there}
use Rattle.session_state.proofs.session.SessionState.has_nul.Goals as goal

pub returns-in-None : goal.returns-in-None
unfolding PeerStands
returns-in-None g c = λ p stands. nul_none (slice_get p.sessions c.args.number) (ap is_some (sym c.in-None.is) ∙ c.text.ensures.some stands.whole p.sessions stands.slots_stand)

pub returns-in-Some : goal.returns-in-Some
unfolding PeerStands
returns-in-Some g c = λ p stands.
    let there = open_there (slice_get p.sessions c.args.number) (ap is_some (sym c.in-Some.is) ∙ c.text.ensures.some stands.whole p.sessions stands.slots_stand) in
    c.is_some.ensures
    ∙ nul_told there.session c.next_message.result (c.next_message.ensures there.session (c.in-Some.ensures.text p.sessions there.session stands.slots_stand there.here))
    ∙ nul_some (slice_get p.sessions c.args.number) there
