use Rattle.std.proofs.Common.{Some, None, ap, sym, ◌∙◌}
use Rattle.std.specs.Prelude.{option_map}
use Rattle.session_state.specs.Standing.{PeerStands}
use Rattle.session_state.proofs.Waits.{chosen_ahead}
use Rattle.key_method2.specs.Views.{message_seen}
use Rattle.session_state.proofs.session.SessionState.cipher_ahead.Goals as goal

pub returns-in-None : goal.returns-in-None
unfolding PeerStands
returns-in-None g c = λ p stands. chosen_ahead c.args.policy.now p None (ap (option_map (λ m. (message_seen m.0, m.1))) (sym c.in-None.is) ∙ c.prepared.ensures p stands)

pub returns-in-Some : goal.returns-in-Some
unfolding PeerStands
returns-in-Some g c = λ p stands.
    c.cipher_chosen.ensures ∙ chosen_ahead c.args.policy.now p (Some (message_seen c.in-Some.view, c.in-Some.field-0-1))
    (ap (option_map (λ m. (message_seen m.0, m.1))) (sym c.in-Some.is) ∙ c.prepared.ensures p stands)
