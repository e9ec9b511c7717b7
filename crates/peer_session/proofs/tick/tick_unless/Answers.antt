use Rattle.std.proofs.Common.{sym, subst}
use Rattle.peer_table.specs.Time.{resent_in}
use Rattle.peer_session.specs.internal.Ticking.{HasDone, resent_unless}
use Rattle.peer_session.proofs.tick.tick_unless.Goals as goal

pub returns-else-is_retired-clause-done : goal.returns-else-is_retired-clause-done
returns-else-is_retired-clause-done g c = λ before o s done at is_open spent.
    subst (λ b. HasDone g.W.Wrap.wrapped c.tick_at.new.session c.tick_at.result before c.tick_at.new.out c.args.to (resent_unless b c.args.number c.args.now.0 o)) (sym c.if-is_retired.false)
    (subst (λ x. HasDone g.W.Wrap.wrapped c.tick_at.new.session c.tick_at.result before c.tick_at.new.out c.args.to (resent_in c.args.number c.args.now.0 o x)) (sym at)
    (c.tick_at.ensures.done before o s done at is_open spent))
