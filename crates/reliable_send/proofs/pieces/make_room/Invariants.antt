use Rattle.std.proofs.Common.{◌-◌, ◌≤◌, vec_len}
use Rattle.reliable_send.proofs.pieces.make_room.Given as goal

abbrev pub invariant-loop-spare : goal.invariant-loop-spare
invariant-loop-spare l = vec_len l.initial.spare ≤ vec_len l.spare

abbrev pub decreases-loop-spare : goal.decreases-loop-spare
decreases-loop-spare l = l.count - vec_len l.spare
