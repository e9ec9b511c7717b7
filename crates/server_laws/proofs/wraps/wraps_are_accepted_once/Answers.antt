use Rattle.server_laws.proofs.WrapsOnce.{close_stay, control_accepted, control_again, control_stay, engine_stay, exchange_stay, message_stay, opened_stay, sealed_stay, tick_stay}
use Rattle.server_laws.proofs.wraps.wraps_are_accepted_once.Goals as goal

pub returns-clause-accepted : goal.returns-clause-accepted
returns-clause-accepted c = control_accepted

pub returns-clause-again : goal.returns-clause-again
returns-clause-again c = control_again

pub returns-clause-control : goal.returns-clause-control
returns-clause-control c = control_stay

pub returns-clause-engine : goal.returns-clause-engine
returns-clause-engine c = engine_stay

pub returns-clause-exchange : goal.returns-clause-exchange
returns-clause-exchange c = exchange_stay

pub returns-clause-message : goal.returns-clause-message
returns-clause-message c = message_stay

pub returns-clause-seals : goal.returns-clause-seals
returns-clause-seals c = sealed_stay

pub returns-clause-opens : goal.returns-clause-opens
returns-clause-opens c = opened_stay

pub returns-clause-tick : goal.returns-clause-tick
returns-clause-tick c = tick_stay

pub returns-clause-close : goal.returns-clause-close
returns-clause-close c = close_stay
