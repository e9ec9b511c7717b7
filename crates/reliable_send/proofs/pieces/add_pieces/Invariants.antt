use Rattle.std.proofs.Common.{◌≡◌, ◌+◌, ◌++◌, length, map, vec_len, vec_capacity}
use Rattle.reliable_send.specs.Sending.{unsent, cut}
use Rattle.reliable_send.specs.Sides.{seen}
use Rattle.reliable_send.proofs.pieces.add_pieces.Given as goal

abbrev pub invariant-loop-rest : goal.invariant-loop-rest
invariant-loop-rest l = record {
  added : l.pieces.items ++ map (λ b. seen 0 (unsent b)) (cut l.rest) ≡ l.fn.pieces.items ++ map (λ b. seen 0 (unsent b)) (cut l.fn.bytes);
  capacity : vec_capacity l.pieces ≡ vec_capacity l.fn.pieces;
  places : vec_len l.pieces + length (cut l.rest) ≡ vec_len l.fn.pieces + length (cut l.fn.bytes);
  rooms : vec_len l.spare + length (cut l.fn.bytes) ≡ vec_len l.fn.spare + length (cut l.rest);
}

abbrev pub decreases-loop-rest : goal.decreases-loop-rest
decreases-loop-rest l = length l.rest
