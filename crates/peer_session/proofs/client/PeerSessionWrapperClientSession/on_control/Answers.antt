use Rattle.std.proofs.Common.{◌≡◌, ℕ, sym, subst}
use Rattle.peer_table.specs.ControlPackets.{control_came}
use Rattle.peer_table.specs.Outboxes.{incoming}
use Rattle.peer_table.specs.Peer.{Peer}
use Rattle.peer_session.specs.Client.{ClientStands}
use Rattle.session_state.specs.Standing.{RetiredBy, SessionStands, UsableAreOpen, since}
use Rattle.session_state.proofs.Ends.{if_ok}
use Rattle.peer_session.proofs.Wholes.{leaves_with, on_ok_always}
use Rattle.peer_session.proofs.client.PeerSessionWrapperClientSession.on_control.Goals as goal

pub returns-clause-left : goal.returns-clause-left
unfolding ClientStands
returns-clause-left c p stands =
    let law = c.retired_sessions_stay_retired.ensures in
    let was = since c.args.self.now.state in
    let s = c.on_control.new.session in
    let i = incoming c.args.opened.now c.args.view.now c.args.next_conn c.args.established c.args.now in
    let o = control_came p i in
    let retired = subst (λ (n : ℕ). RetiredBy n o.peer) (sym c.on_control.ensures.since) (law.control was p i stands.retired) in
    let named = c.names_come_first.ensures.control p i stands.named in
    let kept = subst (λ (n : ℕ). RetiredBy n p) (sym c.on_control.ensures.since) stands.retired in
    leaves_with c.on_control.result SessionStands ClientStands s (record { state = s }) c.args.out.now c.on_control.new.out c.args.to p o
    (on_ok_always c.on_control.result (SessionStands s o.peer → ClientStands (record { state = s }) o.peer) (λ session. record { session = session; retired = retired; named = named }))
    (λ session. record { session = session; retired = kept; named = stands.named })
    (c.on_control.ensures.left p (law.usable was c.args.now.0 p stands.retired c.requires.later) stands.session)

pub returns-clause-answer : goal.returns-clause-answer
unfolding ClientStands
returns-clause-answer c =
    let was = since c.args.self.now.state in
    if_ok c.on_control.result
    (λ answer. (p : Peer) → UsableAreOpen p c.args.now.0 → SessionStands c.args.self.now.state p
    → answer ≡ (control_came p (incoming c.args.opened.now c.args.view.now c.args.next_conn c.args.established c.args.now)).answer)
    (λ answer. (p : Peer) → ClientStands c.args.self.now p
    → answer ≡ (control_came p (incoming c.args.opened.now c.args.view.now c.args.next_conn c.args.established c.args.now)).answer)
    (λ answer is p stands. is p (c.retired_sessions_stay_retired.ensures.usable was c.args.now.0 p stands.retired c.requires.later) stands.session)
    c.on_control.ensures.answer
