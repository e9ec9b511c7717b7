use Rattle.vpn_top.proofs.Runs.{nothing_written}
use Rattle.vpn_top.proofs.route.route.Goals as goal

pub returns-in_default-clause-ended : goal.returns-in_default-clause-ended
returns-in_default-clause-ended g c = nothing_written (g.F.Files.holds c.args.files.now c.args.name.now) (g.S.Sink.contents c.args.out.now)
