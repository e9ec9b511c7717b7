use Rattle.std.proofs.Common.{ap, sym, ◌∙◌}
use Rattle.std.specs.Prelude.{option_map, slice_get}
use Rattle.session_state.specs.Standing.{PeerStands}
use Rattle.session_state.proofs.Waits.{waits_none, waits_some}
use Rattle.session_state.proofs.session.SessionState.waits_at.Goals as goal

pub returns-in-None : goal.returns-in-None
unfolding PeerStands
returns-in-None g c = λ p stands. waits_none (slice_get p.sessions c.args.number)
    (ap (option_map (λ r. (r.0.now.0, r.1))) (sym c.in-None.is) ∙ c.keys_at.ensures p.sessions stands.slots_stand)

pub returns-in-Some : goal.returns-in-Some
unfolding PeerStands
returns-in-Some g c = λ p stands.
    c.has_nul.ensures p stands ∙ waits_some (slice_get p.sessions c.args.number) (c.in-Some.field-0.0.now.0, c.in-Some.field-0.1)
    (ap (option_map (λ r. (r.0.now.0, r.1))) (sym c.in-Some.is) ∙ c.keys_at.ensures p.sessions stands.slots_stand)
