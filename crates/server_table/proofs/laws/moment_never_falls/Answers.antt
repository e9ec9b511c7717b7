use Rattle.server_table.proofs.laws.moment_never_falls.Goals as goal
use Rattle.server_table.proofs.Steps.{run_moment, step_moment}

pub returns-clause-step : goal.returns-clause-step
returns-clause-step c = λ lacks t event most. (step_moment c.calls_keep_order.ensures lacks t event most).0

pub returns-clause-most : goal.returns-clause-most
returns-clause-most c = λ lacks t event most. (step_moment c.calls_keep_order.ensures lacks t event most).1

pub returns-clause-run : goal.returns-clause-run
returns-clause-run c = λ t entries most. run_moment c.calls_keep_order.ensures entries t most
