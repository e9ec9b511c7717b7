use Rattle.server_laws.proofs.inner_packets.ids_are_accepted_once.Goals as goal
use Rattle.server_table.specs.Table.{table_begun}
use Rattle.server_laws.proofs.Runs.{begun_kept, run_kept, run_once}

pub returns : goal.returns
returns c = λ settings key before between first second n k id inner other may one two.
    let sound = c.tables_stay_sound.ensures in
    let t = table_begun settings key in
    run_once before first between t second n k id inner other (sound.run t before (sound.begins settings key)) (run_kept before t (begun_kept settings key)) may one two
