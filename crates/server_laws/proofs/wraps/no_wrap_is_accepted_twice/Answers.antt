use Rattle.server_laws.proofs.WrapRuns.{wrap_once}
use Rattle.server_laws.proofs.wraps.no_wrap_is_accepted_twice.Goals as goal
use Rattle.server_table.specs.Table.{table_begun}

pub returns : goal.returns
returns c = λ settings key before between first second n r q some one two time id.
    let sound = c.tables_stay_sound.ensures in
    let t = table_begun settings key in
    wrap_once before first between t second n r q (sound.run t before (sound.begins settings key)) some one two time id
