use Rattle.server_table.proofs.laws.numbers_are_in_order_of_admission.Goals as goal
use Rattle.server_table.proofs.Steps.{run_still, step_grows, step_still}

pub returns-clause-step : goal.returns-clause-step
returns-clause-step c = step_still c.calls_keep_order.ensures

pub returns-clause-from : goal.returns-clause-from
returns-clause-from c = λ lacks t event. (step_grows c.calls_keep_order.ensures lacks t event).0

pub returns-clause-most : goal.returns-clause-most
returns-clause-most c = λ lacks t event. (step_grows c.calls_keep_order.ensures lacks t event).1

pub returns-clause-run : goal.returns-clause-run
returns-clause-run c = λ t entries s. run_still c.calls_keep_order.ensures entries t s
