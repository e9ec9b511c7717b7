use Rattle.std.proofs.Common.{ℕ, sym, subst}
use Rattle.tls_crypt.specs.Packets.{Directions}
use Rattle.tls_crypt.specs.Wrapped.{wrapped}
use Rattle.peer_table.specs.Exchange.{exchanged}
use Rattle.peer_session.specs.Client.{ClientStands}
use Rattle.session_state.specs.Standing.{RetiredBy, SessionStands, since}
use Rattle.peer_session.proofs.Wholes.{leaves_with, on_ok_always}
use Rattle.peer_session.proofs.client.PeerSessionWrapperClientSession.exchange.Goals as goal

pub returns-clause-left : goal.returns-clause-left
unfolding ClientStands
returns-clause-left c p stands =
    let law = c.retired_sessions_stay_retired.ensures in
    let was = since c.args.self.now.state in
    let s = c.exchange.new.session in
    let o = exchanged c.args.policy.now c.args.peer_id c.args.draw.now p in
    let last = (law.stands (λ (d : Directions). wrapped d.writes) c.args.self.now.state p stands.session).0 in
    let retired = subst (λ (n : ℕ). RetiredBy n o.peer) (sym c.exchange.ensures.since) (law.exchange was c.args.policy.now c.args.peer_id c.args.draw.now p last stands.retired) in
    let named = c.names_come_first.ensures.exchange c.args.policy.now c.args.peer_id c.args.draw.now p stands.named in
    let kept = subst (λ (n : ℕ). RetiredBy n p) (sym c.exchange.ensures.since) stands.retired in
    leaves_with c.exchange.result SessionStands ClientStands s (record { state = s }) c.args.out.now c.exchange.new.out c.args.to p o
    (on_ok_always c.exchange.result (SessionStands s o.peer → ClientStands (record { state = s }) o.peer) (λ session. record { session = session; retired = retired; named = named }))
    (λ session. record { session = session; retired = kept; named = stands.named })
    (c.exchange.ensures.left p c.args.to stands.session)
