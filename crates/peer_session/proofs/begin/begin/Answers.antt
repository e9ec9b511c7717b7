use Rattle.std.proofs.Common.{ap, sym, subst}
use Rattle.vpn_base.specs.declared.names.Role.{Role}
use Rattle.tls_crypt.specs.Packets.{Directions}
use Rattle.tls_crypt.specs.Wrapped.{Keys, wrapped}
use Rattle.peer_table.specs.Outboxes.{Leaves}
use Rattle.peer_table.specs.Peer.{began}
use Rattle.session_state.specs.Standing.{SessionStands}
use Rattle.session_state.proofs.Ends.{if_ok}
use Rattle.peer_session.proofs.begin.begin.Goals as goal

pub returns-in-Server-clause-made : goal.returns-in-Server-clause-made
returns-in-Server-clause-made c = if_ok c.begin_server.result _ _
    (λ s made. subst (λ (k : Keys). Leaves SessionStands s c.args.out.now c.begin_server.new.out c.args.to (began c.args.role (wrapped k) c.args.own c.args.timers c.args.conn c.args.now.0))
    (ap (λ (d : Directions). d.writes) c.new-wrap.ensures)
    (subst (λ (role : Role). Leaves SessionStands s c.args.out.now c.begin_server.new.out c.args.to
    (began role (wrapped c.new-wrap.result.writes) c.args.own c.args.timers c.args.conn c.args.now.0)) (sym c.in-Server.is) (made c.args.to)))
    c.begin_server.ensures.made

pub returns-in-Client-clause-made : goal.returns-in-Client-clause-made
returns-in-Client-clause-made c = if_ok c.begin_client.result _ _
    (λ s made. subst (λ (k : Keys). Leaves SessionStands s c.args.out.now c.begin_client.new.out c.args.to (began c.args.role (wrapped k) c.args.own c.args.timers c.args.conn c.args.now.0))
    (ap (λ (d : Directions). d.writes) c.new-wrap.ensures)
    (subst (λ (role : Role). Leaves SessionStands s c.args.out.now c.begin_client.new.out c.args.to
    (began role (wrapped c.new-wrap.result.writes) c.args.own c.args.timers c.args.conn c.args.now.0)) (sym c.in-Client.is) (made)))
    c.begin_client.ensures.made
