use Rattle.std.proofs.Common.{◌++◌, ap, sym, subst, ◌∙◌}
use Rattle.std.specs.Prelude.{slice_get}
use Rattle.vpn_links.specs.Actions.{Holds}
use Rattle.peer_table.specs.Outboxes.{actions_of}
use Rattle.session_state.specs.Standing.{PeerStands}
use Rattle.session_state.specs.internal.OpenOnes.{closings_among}
use Rattle.session_state.proofs.Ends.{only_done}
use Rattle.session_state.proofs.OpenPlaces.{closings_are}
use Rattle.session_state.proofs.session.SessionState.close_all.Goals as goal

pub returns-clause-closed : goal.returns-clause-closed
unfolding PeerStands
returns-clause-closed g c = λ p stands.
    let all = ap (closings_among (slice_get p.sessions)) (c.as_slice.ensures.now ∙ c.of-numbers.ensures p.sessions stands.slots_stand) ∙ sym (closings_are p.sessions) in
    subst (λ doings. Holds c.close_each.new.out (c.args.out.now.effects ++ actions_of p.role doings) c.args.out.now.staged) all
    (only_done p.role (closings_among (slice_get p.sessions) c.as_slice.result.now) c.args.out.now c.reserve.new.self c.close_each.new.out c.reserve.ensures.same (c.close_each.ensures.closed p stands))
