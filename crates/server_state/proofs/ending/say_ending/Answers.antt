use Rattle.std.proofs.Common.{List, ◌++◌, sym, ap, ◌∙◌}
use Rattle.vpn_links.specs.Actions.{Action}
use Rattle.peer_table.specs.Outboxes.{actions_of}
use Rattle.peer_table.specs.Time.{closings}
use Rattle.server_table.specs.Endings.{disconnect_line}
use Rattle.server_state.proofs.Ended.{established_is, in_order}
use Rattle.server_state.proofs.ending.say_ending.Goals as goal

pub returns-clause-said : goal.returns-clause-said
returns-clause-said g c x h =
    let told = c.say_disconnect.ensures.said x.established (established_is c.args.client.now.established x.established h.established ∙ sym c.is_some.ensures) in
    let closed = c.close_sessions.ensures.closed x.session h.session in
    let put = c.put.ensures.put in
    let line : List Action = disconnect_line c.args.cid.0 x.established in
    let ends : List Action = actions_of x.session.role (closings x.session.sessions) in (
      closed.0 ∙ ap (λ (l : List Action). l ++ ends) (told.0 ∙ ap (λ (l : List Action). l ++ line) put.0)
          ∙ in_order c.args.out.now.effects line ends _,
      closed.1 ∙ told.1 ∙ put.1,
    )
