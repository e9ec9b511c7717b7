use Rattle.server_laws.proofs.LastTaken.{accepted_tells, others_tell, run_tells, step_tells}
use Rattle.server_laws.proofs.datagrams.datagrams_go_to_key_sessions.Goals as goal
use Rattle.server_table.specs.Runs.{after_all}
use Rattle.server_table.specs.Table.{table_begun}
use Rattle.server_laws.proofs.Runs.{begun_kept, run_kept}

pub returns-clause-begins : goal.returns-clause-begins
returns-clause-begins c = λ settings key. tt

pub returns-clause-step : goal.returns-clause-step
returns-clause-step c = step_tells

pub returns-clause-run : goal.returns-clause-run
returns-clause-run c = λ settings key entries. run_tells entries (table_begun settings key) tt

pub returns-clause-others : goal.returns-clause-others
returns-clause-others c = others_tell

pub returns-clause-accepted : goal.returns-clause-accepted
returns-clause-accepted c = λ lacks settings key before event n k id inner accepts.
    let sound = c.tables_stay_sound.ensures in
    let t = table_begun settings key in
    accepted_tells lacks (after_all t before) event n k id inner (sound.run t before (sound.begins settings key)) (run_kept before t (begun_kept settings key)) accepts
