use Rattle.control_link.specs.Calls.{ticked}
use Rattle.control_link.proofs.link.ControlLink.tick.Goals as goal

pub returns-clause-left : goal.returns-clause-left
unfolding ticked
returns-clause-left g c = c.send_where_room.ensures.left

pub returns-clause-answer : goal.returns-clause-answer
unfolding ticked
returns-clause-answer g c = c.send_where_room.ensures.answer
