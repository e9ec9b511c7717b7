use Rattle.std.proofs.Common.{◌≡◌, ◌+◌, drop}
use Rattle.reliable_send.specs.internal.Sound.{waiting}
use Rattle.reliable_send.proofs.pieces.count_waiting.Given as goal

abbrev pub invariant-loop-piece : goal.invariant-loop-piece
invariant-loop-piece l = l.count + waiting (drop l.piece-index l.pieces) ≡ waiting l.pieces
