use Rattle.std.proofs.Common.{◌*◌, ◌^◌, ◌∙◌, ap, sym}
use Rattle.std.specs.Prelude.{◌&&◌, ◌||◌, ◌==◌, nat_le, not}
use Rattle.vpn_base.specs.declared.names.Timers.{Timers}
use Rattle.peer_table.specs.KeySessions.{has_passed}
use Rattle.session_state.specs.Standing.{PeerStands}
use Rattle.session_state.specs.internal.Finished.{is_finished_seen}
use Rattle.session_state.proofs.Finished.{due_keyed, renews_is}
use Rattle.session_state.proofs.Usable.{last_open}
use Rattle.session_state.proofs.session.SessionState.renews.Goals as goal

pub returns-clause-renews : goal.returns-clause-renews
unfolding PeerStands
returns-clause-renews g c = λ p next_conn idle stands.
    let seen = c.newest-newest.result in
    let reneg = c.args.self.now.timers.reneg in
    let sealed = c.sealed_at-sealed.result in
    let old = not (reneg == 0) && has_passed reneg seen.began.0 c.args.now.0 in
    c.is_due.ensures
    ∙ ap (λ b. b && c.args.established && c.is_worn.result) c.is_finished.ensures
    ∙ ap (λ b. is_finished_seen c.args.established seen && c.args.established && b)
    (c.is_worn.ensures ∙ ap (λ b. b || (c.is_keyed-keyed.result && nat_le (255 * 2 ^ 24) sealed)) c.is_old-by_time.ensures
    ∙ ap (λ b. old || (b && nat_le (255 * 2 ^ 24) sealed)) c.is_keyed-keyed.ensures)
    ∙ renews_is p seen reneg sealed c.args.now.0 next_conn c.args.established idle (c.newest-newest.ensures.seen p.sessions stands.slots_stand)
    (ap (λ (t : Timers). t.reneg) stands.timers_are) (last_open p.sessions c.args.self.now.slots stands.slots_stand)
    (λ s at is_open. c.sealed_at-sealed.ensures p s stands at is_open)

pub returns-clause-keyed : goal.returns-clause-keyed
returns-clause-keyed g c = λ is.
    sym c.newest-newest.ensures.stage
    ∙ due_keyed c.args.established c.is_worn.result c.newest-newest.result
    (ap (λ b. b && c.args.established && c.is_worn.result) (sym c.is_finished.ensures) ∙ sym c.is_due.ensures ∙ is)
