use Rattle.std.proofs.Common.{length, arith}
use Rattle.session_state.specs.Ready.{IsReady}
use Rattle.session_state.proofs.Ends.{if_ok}
use Rattle.session_control.proofs.next.take_memory.Goals as goal

pub returns-in-None-clause-fits : goal.returns-in-None-clause-fits
unfolding IsReady
returns-in-None-clause-fits g c = λ from bytes effects room ready short has. absurd (omega (arith, c.in-None.ensures.none, ready.own.bytes_fit, ready.own.bytes_count, short))

pub returns-in-Err-clause-fits : goal.returns-in-Err-clause-fits
unfolding IsReady
returns-in-Err-clause-fits g c = λ from bytes effects room ready short has. c.in-Err.ensures.fits (length bytes) ready.own.next ready.own.next_fits short

pub returns-in-Ok-reserve-clause-blank_fits : goal.returns-in-Ok-reserve-clause-blank_fits
returns-in-Ok-reserve-clause-blank_fits g c = if_ok c.take_blank.result _ _ (λ blank fits. fits c.args.payload c.in-Ok.ensures.takes) c.take_blank.ensures.blank_fits

pub returns-in-Ok-reserve-clause-fits : goal.returns-in-Ok-reserve-clause-fits
returns-in-Ok-reserve-clause-fits g c = λ from bytes effects room ready short has. c.take_blank.ensures.fits c.args.payload c.in-Ok.ensures.takes

pub returns-in-Err-reserve-clause-fits : goal.returns-in-Err-reserve-clause-fits
unfolding IsReady
returns-in-Err-reserve-clause-fits g c = λ from bytes effects room ready short has.
    c.in-Err-reserve.ensures.fits (omega (arith, has.effects_fit, ready.own.effects_fit)) (omega (arith, c.in-Some.ensures.room, has.bytes_fit, ready.own.bytes_fit, short))
