use Rattle.vpn_top.proofs.Runs.{part_of}
use Rattle.vpn_top.proofs.route.finish.Goals as goal

pub returns-in-Err-Memory-clause-ended : goal.returns-in-Err-Memory-clause-ended
returns-in-Err-Memory-clause-ended g c = λ h before at files_before files_after end going.
    part_of h before (g.S.Sink.contents c.args.out.now) at c.args.reader going
