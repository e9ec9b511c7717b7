use Rattle.reliable_send.specs.Sides.{Stands}
use Rattle.reliable_send.proofs.Standing.{most_timeout, some_timeout}
use Rattle.reliable_send.proofs.laws.timeout_is_kept.Goals as goal

pub returns-clause-some : goal.returns-clause-some
unfolding Stands
returns-clause-some c = λ side h s. some_timeout side.kept h s

pub returns-clause-most : goal.returns-clause-most
unfolding Stands
returns-clause-most c = λ side h s. most_timeout side.kept h s
