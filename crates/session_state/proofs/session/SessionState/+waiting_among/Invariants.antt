use Rattle.std.proofs.Common.{length}
use Rattle.session_state.proofs.session.SessionState.+waiting_among.Given as goal

abbrev pub decreases-waiting_among : goal.decreases-waiting_among
decreases-waiting_among g l = length l.numbers.now
