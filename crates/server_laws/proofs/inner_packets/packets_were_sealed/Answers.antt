use Rattle.server_laws.proofs.inner_packets.packets_were_sealed.Goals as goal
use Rattle.server_table.specs.Runs.{after_all}
use Rattle.server_table.specs.Step.{moment_of}
use Rattle.server_table.specs.Table.{table_begun}
use Rattle.server_laws.proofs.Runs.{was_sealed}

pub returns : goal.returns
returns c = λ sealed settings key before rest entry n k id inner only a.
    let t = table_begun settings key in
    was_sealed sealed before entry rest t a.from a.datagram (moment_of (after_all t before) entry.0) n k id inner a.comes only a.accepted
