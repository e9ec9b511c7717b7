use Rattle.server_laws.proofs.inner_packets.packets_go_where_they_should.Goals as goal
use Rattle.server_table.specs.Runs.{after_all}
use Rattle.server_table.specs.Table.{table_begun}
use Rattle.server_laws.proofs.Runs.{begun_kept, run_kept}
use Rattle.server_laws.proofs.Steps.{brings}

pub returns : goal.returns
returns c = λ settings key before lacks event from datagram is.
    brings lacks (after_all (table_begun settings key) before) event from datagram (run_kept before (table_begun settings key) (begun_kept settings key)) is
