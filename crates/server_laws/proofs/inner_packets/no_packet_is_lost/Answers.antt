use Rattle.server_laws.proofs.inner_packets.no_packet_is_lost.Goals as goal
use Rattle.server_table.specs.Runs.{after_all}
use Rattle.server_table.specs.Step.{step}
use Rattle.server_table.specs.Table.{table_begun}
use Rattle.server_laws.proofs.Runs.{begun_kept, never_lacks, run_kept, sent_on}
use Rattle.server_laws.proofs.Steps.{accepted_dealt}
use Rattle.server_laws.proofs.Dealing.{always_routed}
use Rattle.server_laws.proofs.Verdicts.{owner_is_good}

pub returns-clause-dealt : goal.returns-clause-dealt
returns-clause-dealt c = λ settings key before lacks event n k id inner a.
    let sound = c.tables_stay_sound.ensures in
    let t = table_begun settings key in
    accepted_dealt (after_all t before) event a.from a.datagram lacks (sound.run t before (sound.begins settings key)) (run_kept before t (begun_kept settings key)) n k id inner
    a.is_taken a.comes a.accepted

pub returns-clause-passed : goal.returns-clause-passed
returns-clause-passed c = λ settings key before lacks event n k id inner a pings forward.
    let sound = c.tables_stay_sound.ensures in
    let t = table_begun settings key in
    let u = after_all t before in
    sent_on u n inner (step lacks u event) forward pings
    (accepted_dealt u event a.from a.datagram lacks (sound.run t before (sound.begins settings key)) (run_kept before t (begun_kept settings key)) n k id inner
    a.is_taken a.comes a.accepted)

pub returns-clause-owned : goal.returns-clause-owned
returns-clause-owned c = λ t n inner found owned is. owner_is_good t.routes.rows t.settings.net t.settings.between n inner found owned is

pub returns-clause-memory : goal.returns-clause-memory
returns-clause-memory c = never_lacks

pub returns-clause-routed : goal.returns-clause-routed
returns-clause-routed c = always_routed
