use Rattle.std.proofs.Common.{◌≡◌, false, Some}
use Rattle.peer_table.specs.Time.{is_late, retired, ticked, ticking}
use Rattle.peer_session.specs.Client.{ClientStands}
use Rattle.session_state.specs.Standing.{SessionStands, since}
use Rattle.peer_session.proofs.Wholes.{leaves_with, on_ok_from}
use Rattle.peer_session.proofs.client.PeerSessionWrapperClientSession.on_tick.Goals as goal

pub returns-clause-left : goal.returns-clause-left
unfolding ClientStands
returns-clause-left c p stands =
    let law = c.retired_sessions_stay_retired.ensures in
    let was = since c.args.self.now.state in
    let s = c.on_tick.new.session in
    let t = ticking c.args.now.0 c.args.next_conn c.args.established c.args.idle in
    let o = ticked t p in
    let named = c.names_come_first.ensures.tick t p stands.named in
    leaves_with c.on_tick.result SessionStands ClientStands s (record { state = s }) c.args.out.now c.on_tick.new.out c.args.to p o
    (on_ok_from c.on_tick.result (λ n. is_late p t ≡ false → t.idle ≡ false → retired p t.at ≡ Some n → since s ≡ t.at) (SessionStands s o.peer → ClientStands (record { state = s }) o.peer)
    (λ n. c.on_tick.ensures.closed p n stands.session)
    (λ closed session. record { session = session; retired = law.remembered was (since s) t p stands.retired c.on_tick.ensures.since.0 closed; named = named }))
    (λ session. record { session = session; retired = law.later was (since s) p stands.retired c.on_tick.ensures.since.0; named = stands.named })
    (c.on_tick.ensures.left p stands.session)
