use Rattle.std.proofs.Common.{ap}
use Rattle.server_table.specs.Courses.{Course, outs}
use Rattle.server_table.proofs.laws.only_the_end_stops.Goals as goal
use Rattle.server_table.proofs.Steps.{step_counts, step_halts, step_stops}
use Rattle.server_table.proofs.Stopped.{halted_step}

pub returns-clause-told : goal.returns-clause-told
returns-clause-told c = λ lacks t event goes is. ap (λ (c : Course). outs c) (halted_step lacks t event goes is)

pub returns-clause-only : goal.returns-clause-only
returns-clause-only c = λ lacks t event goes is. step_stops c.calls_keep_order.ensures lacks t event goes is

pub returns-clause-stop : goal.returns-clause-stop
returns-clause-stop c = λ lacks t event is. step_halts c.calls_keep_order.ensures lacks t event is

pub returns-clause-counted : goal.returns-clause-counted
returns-clause-counted c = λ lacks t event. step_counts c.calls_keep_order.ensures lacks t event
