use Rattle.std.proofs.Common.{sym, subst}
use Rattle.peer_table.specs.Time.{renewed, ticking}
use Rattle.peer_session.specs.internal.Ticking.{HasDone}
use Rattle.peer_session.proofs.tick.begin_if.Goals as goal

pub returns-then-renews-clause-done : goal.returns-then-renews-clause-done
returns-then-renews-clause-done g c = λ before o established idle done.
    subst (λ b. HasDone g.W.Wrap.wrapped c.renew.new.session c.renew.result before c.renew.new.out c.args.to
    (renewed (ticking c.args.now.0 c.args.next_conn established idle) b o)) (sym c.if-renews.true)
    (c.renew.ensures.done before o established idle done)
