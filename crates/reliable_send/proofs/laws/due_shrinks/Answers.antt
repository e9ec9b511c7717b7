use Rattle.reliable_send.proofs.Shrinking.{due_after, ready_after_due}
use Rattle.reliable_send.proofs.laws.due_shrinks.Goals as goal

pub returns-clause-due : goal.returns-clause-due
returns-clause-due c = due_after

pub returns-clause-ready : goal.returns-clause-ready
returns-clause-ready c = ready_after_due
