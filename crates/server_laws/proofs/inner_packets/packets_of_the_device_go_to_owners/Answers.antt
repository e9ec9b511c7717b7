use Rattle.server_laws.proofs.inner_packets.packets_of_the_device_go_to_owners.Goals as goal
use Rattle.server_table.specs.Runs.{after_all}
use Rattle.server_table.specs.Table.{table_begun}
use Rattle.server_laws.proofs.Queue.{device_step}
use Rattle.server_laws.proofs.Runs.{begun_kept, run_kept}
use Rattle.server_laws.proofs.Dealing.{never_back, target_owns}

pub returns-clause-dealt : goal.returns-clause-dealt
returns-clause-dealt c = λ settings key before lacks event inner goes is.
    let t = table_begun settings key in
    device_step (after_all t before) event (run_kept before t (begun_kept settings key)) lacks inner goes is

pub returns-clause-routed : goal.returns-clause-routed
returns-clause-routed c = target_owns

pub returns-clause-stays : goal.returns-clause-stays
returns-clause-stays c = never_back
