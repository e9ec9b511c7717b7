use Rattle.control_link.proofs.Pending.{pending_rest}
use Rattle.control_link.proofs.sending.pending_shrinks.Goals as goal

pub returns : goal.returns
returns c = λ again side s p rest now stands is. pending_rest again s p rest now c.ready_shrinks.ensures c.due_shrinks.ensures.due (c.timeout_is_kept.ensures.some side s stands) is
