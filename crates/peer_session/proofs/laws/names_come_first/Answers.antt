use Rattle.peer_table.specs.Unnamed.{NameComesFirst}
use Rattle.peer_session.proofs.NameFirst.{began_first, closing_first, exchange_first, first_stays}
use Rattle.peer_session.proofs.RetiredCalls.{control_stays, data_stays, engine_stays, message_stays, sealed_stays}
use Rattle.peer_session.proofs.RetiredTicks.{tick_stays}
use Rattle.peer_session.proofs.laws.names_come_first.Goals as goal

pub returns-clause-begins : goal.returns-clause-begins
unfolding NameComesFirst
returns-clause-begins c = λ role wraps own timers conn now. began_first role wraps own timers conn now

pub returns-clause-control : goal.returns-clause-control
unfolding NameComesFirst
returns-clause-control c = λ p i is. control_stays first_stays p i is

pub returns-clause-engine : goal.returns-clause-engine
unfolding NameComesFirst
returns-clause-engine c = λ kind now p is. engine_stays first_stays kind now p is

pub returns-clause-exchange : goal.returns-clause-exchange
unfolding NameComesFirst
returns-clause-exchange c = λ policy peer_id draw p is. exchange_first policy peer_id draw p is

pub returns-clause-message : goal.returns-clause-message
unfolding NameComesFirst
returns-clause-message c = λ p is. message_stays first_stays p is

pub returns-clause-seals : goal.returns-clause-seals
unfolding NameComesFirst
returns-clause-seals c = λ inner p is. sealed_stays first_stays inner p is

pub returns-clause-opens : goal.returns-clause-opens
unfolding NameComesFirst
returns-clause-opens c = λ datagram moment p is. data_stays first_stays datagram moment p is

pub returns-clause-tick : goal.returns-clause-tick
unfolding NameComesFirst
returns-clause-tick c = λ t p is. tick_stays first_stays closing_first t p is
