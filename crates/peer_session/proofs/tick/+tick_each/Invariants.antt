use Rattle.std.proofs.Common.{length}
use Rattle.peer_session.proofs.tick.+tick_each.Given as goal

abbrev pub decreases-tick_each : goal.decreases-tick_each
decreases-tick_each g l = length l.numbers.now
