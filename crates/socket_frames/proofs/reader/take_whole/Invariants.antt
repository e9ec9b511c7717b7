use Rattle.std.proofs.Common.{List, ℕ, length}
use Rattle.socket_frames.specs.Streams.{Stands}
use Rattle.socket_frames.proofs.reader.take_whole.Given as goal

-- the frames so far are those that the reader gave
abbrev pub invariant-loop-frame : goal.invariant-loop-frame
invariant-loop-frame l = (fed : List ℕ) → Stands l.fn.reader (record { fed = fed; given = l.fn.frames.items }) → Stands l.reader (record { fed = fed; given = l.frames.items })

abbrev pub decreases-loop-frame : goal.decreases-loop-frame
decreases-loop-frame l = length l.reader
