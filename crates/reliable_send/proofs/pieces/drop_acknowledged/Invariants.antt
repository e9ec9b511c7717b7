use Rattle.std.proofs.Common.{◌≡◌, ◌+◌, ◌≤◌, drop, length, vec_len, vec_capacity}
use Rattle.reliable_send.specs.internal.Walks.{leading}
use Rattle.reliable_send.proofs.pieces.drop_acknowledged.Given as goal

abbrev pub invariant-loop-pieces : goal.invariant-loop-pieces
invariant-loop-pieces l = record {
  rest : l.pieces.items ≡ drop l.count l.fn.pieces.items;
  count : l.count + leading l.pieces.items ≡ leading l.fn.pieces.items;
  shrinks : vec_len l.pieces ≤ vec_len l.fn.pieces;
  capacity : vec_capacity l.pieces ≡ vec_capacity l.fn.pieces;
  few : l.count + length l.pieces.items ≡ length l.fn.pieces.items;
}

abbrev pub decreases-loop-pieces : goal.decreases-loop-pieces
decreases-loop-pieces l = length l.pieces.items
