use Rattle.server_table.proofs.laws.refused_packets_change_nothing.Goals as goal
use Rattle.server_table.proofs.Steps.{refused_unchanged}

pub returns : goal.returns
returns c = refused_unchanged c.calls_keep_order.ensures
