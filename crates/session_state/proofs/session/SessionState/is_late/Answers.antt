use Rattle.std.proofs.Common.{Bool, ap, sym, ◌∙◌}
use Rattle.std.specs.Prelude.{not, ◌&&◌}
use Rattle.vpn_base.specs.declared.names.Timers.{Timers}
use Rattle.peer_table.specs.KeySessions.{has_passed}
use Rattle.session_state.specs.Standing.{PeerStands}
use Rattle.session_state.proofs.Finished.{late_is}
use Rattle.session_state.proofs.session.SessionState.is_late.Goals as goal

pub returns-then-not-is_finished : goal.returns-then-not-is_finished
unfolding PeerStands
returns-then-not-is_finished g c = λ p next_conn idle stands.
    let seen = c.newest-newest.result in
    c.has_passed.ensures
    ∙ ap (λ (b : Bool). not b && has_passed c.args.self.now.timers.hand seen.began.0 c.args.now.0) (sym c.if-not-is_finished.true ∙ c.is_finished.ensures)
    ∙ late_is p seen c.args.self.now.timers.hand c.args.now.0 next_conn c.args.established idle (c.newest-newest.ensures.seen p.sessions stands.slots_stand)
    (ap (λ (t : Timers). t.hand) stands.timers_are)

pub returns-else-not-is_finished : goal.returns-else-not-is_finished
unfolding PeerStands
returns-else-not-is_finished g c = λ p next_conn idle stands.
    let seen = c.newest-newest.result in
    ap not c.if-not-is_finished.false
    ∙ ap (λ (b : Bool). not b && has_passed c.args.self.now.timers.hand seen.began.0 c.args.now.0) (sym c.if-not-is_finished.false ∙ c.is_finished.ensures)
    ∙ late_is p seen c.args.self.now.timers.hand c.args.now.0 next_conn c.args.established idle (c.newest-newest.ensures.seen p.sessions stands.slots_stand)
    (ap (λ (t : Timers). t.hand) stands.timers_are)
