use Rattle.std.proofs.Common.{arith}
use Rattle.server_control.proofs.Arrived.{all_behind, none_behind}
use Rattle.server_control.proofs.arriving.plain_of.Goals as goal

pub returns-then-datagram-lt-OVERHEAD-clause-plain : goal.returns-then-datagram-lt-OVERHEAD-clause-plain
returns-then-datagram-lt-OVERHEAD-clause-plain c = let short = c.if-datagram-lt-OVERHEAD.true in none_behind 49 c.args.datagram.now (omega (arith, short))

pub returns-clause-plain : goal.returns-clause-plain
returns-clause-plain c = all_behind 49 c.args.datagram.now
