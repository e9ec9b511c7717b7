use Rattle.std.proofs.Common.{◌∙◌, sym}
use Rattle.session_state.specs.Standing.{PeerStands}
use Rattle.session_state.proofs.Finished.{finished_is, finished_keyed}
use Rattle.session_state.proofs.session.SessionState.newest_is_finished.Goals as goal

pub returns-clause-finished : goal.returns-clause-finished
unfolding PeerStands
returns-clause-finished g c = λ p stands. c.is_finished.ensures ∙ finished_is c.args.established p.sessions c.newest.result (c.newest.ensures.seen p.sessions stands.slots_stand)

pub returns-clause-keyed : goal.returns-clause-keyed
returns-clause-keyed g c = λ is. sym c.newest.ensures.stage ∙ finished_keyed c.args.established c.newest.result (sym c.is_finished.ensures ∙ is)
