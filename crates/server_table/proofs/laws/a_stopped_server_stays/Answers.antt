use Rattle.server_table.proofs.laws.a_stopped_server_stays.Goals as goal
use Rattle.server_table.proofs.Stopped.{halt_stops, stopped_all, stopped_run, stopped_step}

pub returns-clause-step : goal.returns-clause-step
returns-clause-step c = λ lacks t event is. stopped_step lacks t event is

pub returns-clause-stops : goal.returns-clause-stops
returns-clause-stops c = λ lacks t event goes is. halt_stops lacks t event goes is

pub returns-clause-table : goal.returns-clause-table
returns-clause-table c = λ t entries is. stopped_all entries t is

pub returns-clause-outs : goal.returns-clause-outs
returns-clause-outs c = λ t entries is may. stopped_run entries t is may
