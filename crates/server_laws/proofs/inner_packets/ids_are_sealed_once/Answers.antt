use Rattle.server_laws.proofs.inner_packets.ids_are_sealed_once.Goals as goal
use Rattle.server_table.specs.Runs.{after_all}
use Rattle.server_table.specs.Table.{table_begun}
use Rattle.server_laws.proofs.Runs.{begun_kept, run_kept}
use Rattle.server_laws.proofs.Sealings.{keys_stay, later_id, run_since, step_rising}

pub returns-clause-step : goal.returns-clause-step
returns-clause-step c = λ settings key before lacks event.
    step_rising lacks (after_all (table_begun settings key) before) event (run_kept before (table_begun settings key) (begun_kept settings key))

pub returns-clause-run : goal.returns-clause-run
returns-clause-run c = later_id

pub returns-clause-keys : goal.returns-clause-keys
returns-clause-keys c = λ t entries n k keys has. keys_stay t (after_all t entries) n k keys (run_since entries t) has
