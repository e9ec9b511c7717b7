use Rattle.std.proofs.Common.{IsOk, subst, arith}
use Rattle.peer_session.proofs.Ticking.{tick_taken}
use Rattle.peer_session.proofs.tick.reserve_tick.Goals as goal

pub returns-in-Err-clause-fits : goal.returns-in-Err-clause-fits
returns-in-Err-clause-fits g c = λ effects room ready has.
    let takes = tick_taken c.args.session.now effects room ready in
    subst IsOk c.in-Err.is (c.reserve.ensures.fits (omega (arith, takes.effects_fit, has.effects_fit)) (omega (arith, takes.bytes_fit, has.bytes_fit)))

pub returns-then-renews-clause-fits : goal.returns-then-renews-clause-fits
returns-then-renews-clause-fits g c = λ effects room ready has. c.make_next.ensures.fits (tick_taken c.args.session.now effects room ready).next
