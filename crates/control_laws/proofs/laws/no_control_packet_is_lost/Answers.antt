use Rattle.server_table.specs.Table.{table_begun}
use Rattle.control_laws.proofs.StepLaws.{taken_all}
use Rattle.control_laws.proofs.laws.no_control_packet_is_lost.Goals as goal

pub returns : goal.returns
returns c = λ settings key before.
    taken_all c.link_reads.ensures settings key before
    (c.tables_stay_sound.ensures.run (table_begun settings key) before (c.tables_stay_sound.ensures.begins settings key))
