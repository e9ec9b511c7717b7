use Rattle.server_laws.proofs.inner_packets.tables_are_well_kept.Goals as goal
use Rattle.server_laws.proofs.Order.{step_follows}
use Rattle.server_table.specs.Table.{table_begun}
use Rattle.server_laws.proofs.Runs.{begun_kept, run_kept, run_settings, step_kept}
use Rattle.std.proofs.Common.{refl}

pub returns-clause-begins : goal.returns-clause-begins
returns-clause-begins c = begun_kept

pub returns-clause-step : goal.returns-clause-step
returns-clause-step c = step_kept

pub returns-clause-run : goal.returns-clause-run
returns-clause-run c = λ settings key entries. run_kept entries (table_begun settings key) (begun_kept settings key)

pub returns-clause-order : goal.returns-clause-order
returns-clause-order c = step_follows

pub returns-clause-settings : goal.returns-clause-settings
returns-clause-settings c = λ settings key entries. run_settings entries (table_begun settings key) settings refl
