use Rattle.std.proofs.Common.{take}
use Rattle.std.specs.List.{concat}
use Rattle.socket_frames.specs.internal.Search.{IsRead}
use Rattle.socket_frames.proofs.reader.read_frames.Given as goal

-- what was read is what can be read of the pieces so far
abbrev pub invariant-loop-piece : goal.invariant-loop-piece
invariant-loop-piece l = IsRead l.reader (concat (take l.piece-index l.pieces)) l.frames.items l.fault
