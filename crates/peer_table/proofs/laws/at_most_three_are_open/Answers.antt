use Rattle.peer_table.proofs.laws.at_most_three_are_open.Goals as goal
use Rattle.peer_table.proofs.Order.{three_open}

pub returns : goal.returns
returns c = three_open
