use Rattle.std.proofs.Common.{length}
use Rattle.session_state.proofs.session.SessionState.+unread_among.Given as goal

abbrev pub decreases-unread_among : goal.decreases-unread_among
decreases-unread_among g l = length l.numbers.now
