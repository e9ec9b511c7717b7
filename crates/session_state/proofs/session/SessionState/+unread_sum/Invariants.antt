use Rattle.std.proofs.Common.{length}
use Rattle.session_state.proofs.session.SessionState.+unread_sum.Given as goal

abbrev pub decreases-unread_sum : goal.decreases-unread_sum
decreases-unread_sum g l = length l.numbers.now
