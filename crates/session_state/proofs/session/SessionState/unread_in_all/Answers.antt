use Rattle.std.proofs.Common.{◌≡◌, ◌≤◌, ◌^◌, ℕ, ap, sym, subst, ◌∙◌}
use Rattle.std.specs.Prelude.{slice_get}
use Rattle.peer_table.specs.Exchange.{all_unread}
use Rattle.peer_table.specs.Peer.{Peer}
use Rattle.session_state.specs.Standing.{PeerStands}
use Rattle.session_state.specs.internal.OpenOnes.{unread_sum}
use Rattle.session_state.proofs.Ends.{if_none, if_some}
use Rattle.session_state.proofs.OpenPlaces.{sum_is}
use Rattle.session_state.proofs.session.SessionState.unread_in_all.Goals as goal

pub returns-clause-some : goal.returns-clause-some
unfolding PeerStands
returns-clause-some g c =
    if_some c.unread_sum.result (λ count. (p : Peer) → PeerStands g.W.Wrap.wrapped c.args.self.now p → count ≡ unread_sum (slice_get p.sessions) c.as_slice.result.now)
    (λ count. (p : Peer) → PeerStands g.W.Wrap.wrapped c.args.self.now p → count ≡ all_unread p.sessions)
    (λ count is p stands.
    is p stands
    ∙ ap (unread_sum (slice_get p.sessions)) (c.as_slice.ensures.now ∙ c.of-numbers.ensures p.sessions stands.slots_stand)
    ∙ sym (sum_is p.sessions))
    c.unread_sum.ensures.some

pub returns-clause-none : goal.returns-clause-none
unfolding PeerStands
returns-clause-none g c =
    if_none c.unread_sum.result ((p : Peer) → PeerStands g.W.Wrap.wrapped c.args.self.now p → 2 ^ 64 ≤ unread_sum (slice_get p.sessions) c.as_slice.result.now)
    ((p : Peer) → PeerStands g.W.Wrap.wrapped c.args.self.now p → 2 ^ 64 ≤ all_unread p.sessions)
    (λ many p stands.
    subst (λ (n : ℕ). 2 ^ 64 ≤ n)
    (ap (unread_sum (slice_get p.sessions)) (c.as_slice.ensures.now ∙ c.of-numbers.ensures p.sessions stands.slots_stand) ∙ sym (sum_is p.sessions)) (many p stands))
    c.unread_sum.ensures.none
