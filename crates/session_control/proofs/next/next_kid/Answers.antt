use Rattle.std.proofs.Common.{ap, ◌∙◌, arith}
use Rattle.peer_table.specs.KeySessions.{kid_of}
use Rattle.session_state.specs.Standing.{PeerStands, count}
use Rattle.session_state.proofs.Seen.{next_number}
use Rattle.session_control.proofs.next.next_kid.Goals as goal

pub overflow_add-newest : goal.overflow_add-newest
unfolding count
overflow_add-newest g c = omega (arith, c.requires.few, c.newest.ensures.number)

pub returns : goal.returns
unfolding PeerStands
returns g c = λ p stands. c.kid_of.ensures ∙ ap kid_of (next_number p.sessions c.newest.result (c.newest.ensures.seen p.sessions stands.slots_stand))
