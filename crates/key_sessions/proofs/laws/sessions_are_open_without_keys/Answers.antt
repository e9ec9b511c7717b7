use Rattle.key_sessions.specs.Slots.{SlotsStand}
use Rattle.key_sessions.proofs.Held.{open_without}
use Rattle.key_sessions.proofs.laws.sessions_are_open_without_keys.Goals as goal

pub returns-clause-orderly : goal.returns-clause-orderly
unfolding SlotsStand
returns-clause-orderly g c = λ ss are. are.orderly

pub returns-clause-open : goal.returns-clause-open
returns-clause-open g c = open_without g.T.SessionText.stands_for c.args.slots.now
