use Rattle.server_table.proofs.laws.tables_stay_sound.Goals as goal
use Rattle.server_table.proofs.Steps.{begun_table_sound, run_sound, step_sound}

pub returns-clause-begins : goal.returns-clause-begins
returns-clause-begins c = begun_table_sound

pub returns-clause-step : goal.returns-clause-step
returns-clause-step c = step_sound c.calls_keep_order.ensures

pub returns-clause-run : goal.returns-clause-run
returns-clause-run c = λ t entries s. run_sound c.calls_keep_order.ensures entries t s
