use Rattle.server_laws.proofs.inner_packets.packets_wait_in_order.Goals as goal
use Rattle.server_table.specs.Table.{table_begun}
use Rattle.server_laws.proofs.Queue.{run_balanced}
use Rattle.server_laws.proofs.Runs.{after_kept, begun_kept}

pub returns : goal.returns
returns c = λ settings key entries. run_balanced after_kept entries (table_begun settings key) (begun_kept settings key)
