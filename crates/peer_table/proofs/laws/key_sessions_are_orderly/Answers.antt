use Rattle.peer_table.proofs.laws.key_sessions_are_orderly.Goals as goal
use Rattle.peer_table.proofs.Calls.{control_orderly, data_orderly, engine_orderly, exchange_orderly, message_orderly, sealed_orderly}
use Rattle.peer_table.proofs.Ticks.{began_orderly, closed_orderly, tick_orderly}

pub returns-clause-begins : goal.returns-clause-begins
returns-clause-begins c = λ role wraps own timers conn now. began_orderly role wraps own timers conn now

pub returns-clause-control : goal.returns-clause-control
returns-clause-control c = λ remote p i is. control_orderly p i is

pub returns-clause-engine : goal.returns-clause-engine
returns-clause-engine c = λ remote kind now p is. engine_orderly kind now p is

pub returns-clause-exchange : goal.returns-clause-exchange
returns-clause-exchange c = λ remote policy id draw p is. exchange_orderly policy id draw p is

pub returns-clause-message : goal.returns-clause-message
returns-clause-message c = λ remote p is. message_orderly p is

pub returns-clause-seals : goal.returns-clause-seals
returns-clause-seals c = λ remote inner p is. sealed_orderly inner p is

pub returns-clause-opens : goal.returns-clause-opens
returns-clause-opens c = λ remote datagram moment p is. data_orderly datagram moment p is

pub returns-clause-tick : goal.returns-clause-tick
returns-clause-tick c = λ remote t p is. tick_orderly t p is

pub returns-clause-close : goal.returns-clause-close
returns-clause-close c = λ remote p is. closed_orderly p is
