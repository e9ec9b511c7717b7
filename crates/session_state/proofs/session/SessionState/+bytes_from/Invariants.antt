use Rattle.std.proofs.Common.{◌-◌}
use Rattle.session_state.specs.Standing.{count}
use Rattle.session_state.proofs.session.SessionState.+bytes_from.Given as goal

abbrev pub decreases-bytes_from : goal.decreases-bytes_from
decreases-bytes_from g l = count l.self.now - l.from
