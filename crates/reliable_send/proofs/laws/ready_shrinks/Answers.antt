use Rattle.reliable_send.proofs.Shrinking.{ready_after}
use Rattle.reliable_send.proofs.laws.ready_shrinks.Goals as goal

pub returns : goal.returns
returns c = ready_after
