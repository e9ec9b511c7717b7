use Rattle.reliable_send.specs.Sides.{Stands}
use Rattle.reliable_send.proofs.Standing.{due_few, in_flight_few, ready_few}
use Rattle.reliable_send.proofs.laws.few_are_ready.Goals as goal

pub returns-clause-ready : goal.returns-clause-ready
unfolding Stands
returns-clause-ready c = λ side h s. ready_few side.kept h s

pub returns-clause-due : goal.returns-clause-due
unfolding Stands
returns-clause-due c = λ side h now s. due_few side.kept h now s

pub returns-clause-in_flight : goal.returns-clause-in_flight
unfolding Stands
returns-clause-in_flight c = λ side h s. in_flight_few side.kept h s
