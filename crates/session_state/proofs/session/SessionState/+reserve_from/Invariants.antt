use Rattle.std.proofs.Common.{◌-◌}
use Rattle.session_state.specs.Standing.{count}
use Rattle.session_state.proofs.session.SessionState.+reserve_from.Given as goal

abbrev pub decreases-reserve_from : goal.decreases-reserve_from
decreases-reserve_from g l = count l.self.now - l.from
