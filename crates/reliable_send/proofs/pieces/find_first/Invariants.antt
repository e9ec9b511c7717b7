use Rattle.std.proofs.Common.{◌≡◌, ◌+◌, drop}
use Rattle.reliable_send.specs.internal.Walks.{found}
use Rattle.reliable_send.proofs.pieces.find_first.Given as goal

abbrev pub invariant-loop-i : goal.invariant-loop-i
invariant-loop-i l = found l.wanted (l.first + l.i) (drop l.i l.pieces) ≡ found l.wanted l.first l.pieces
