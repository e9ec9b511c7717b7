use Rattle.std.proofs.Common.{◌≡◌, ◌+◌, ◌≤◌, length, drop}
use Rattle.reliable_send.specs.internal.Walks.{found}
use Rattle.reliable_send.proofs.pieces.count_found.Given as goal

abbrev pub invariant-loop-i : goal.invariant-loop-i
invariant-loop-i l = record {
  few : l.count ≤ l.i;
  so_far : l.count + length (found l.wanted (l.first + l.i) (drop l.i l.pieces)) ≡ length (found l.wanted l.first l.pieces);
}
