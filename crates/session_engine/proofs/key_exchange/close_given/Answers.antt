use Rattle.std.proofs.Common.{Option, subst, arith}
use Rattle.peer_lines.specs.declared.channels.SessionChannels.{SessionChannels}
use Rattle.session_engine.specs.internal.Exchanges.{IsTextOf}
use Rattle.session_state.proofs.Ends.{ok_value}
use Rattle.session_engine.proofs.ExchangeSteps.{none_closed, one_closed_is}
use Rattle.session_engine.proofs.key_exchange.close_given.Goals as goal

pub returns-in-None-clause-closed : goal.returns-in-None-clause-closed
returns-in-None-clause-closed c = λ o end given. none_closed o end c.args.out.now (subst (λ (r : Option SessionChannels). IsTextOf r o) c.in-None.is given)

pub returns-in-Some-clause-closed : goal.returns-in-Some-clause-closed
returns-in-Some-clause-closed c = λ o end given.
    one_closed_is c.in-Some.text o end c.args.out.now c.close-closed.new.out (subst (λ (r : Option SessionChannels). IsTextOf r o) c.in-Some.is given)
    (λ s stands. ok_value c.close-closed.result _ (c.close-closed.ensures.fits (record { effects_fit = c.requires; bytes_fit = omega arith })) (c.close-closed.ensures.closed s stands) end)
