use Rattle.vpn_top.specs.internal.Ends.{fault_of}
use Rattle.vpn_top.proofs.Runs.{part_written}
use Rattle.vpn_top.proofs.route.settle.Goals as goal

pub returns-in-Err-clause-ended : goal.returns-in-Err-clause-ended
returns-in-Err-clause-ended g c = λ holding before files_before files_after settled. (
  c.in-Err.ensures.failed,
  part_written holding before (g.S.Sink.contents c.args.out.now) (g.S.Sink.contents c.write_all.new.sink) c.args.text.now (fault_of c.args.fault) settled c.in-Err.ensures.part,
)
