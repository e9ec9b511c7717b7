use Rattle.std.proofs.Common.{◌++◌, map, take}
use Rattle.std.specs.List.{concat}
use Rattle.hmac_kit.specs.Hashers.{HoldsText}
use Rattle.hmac_kit.proofs.pseudorandom.mac_of.Given as goal

-- the front and the pieces so far are the text
abbrev pub invariant-loop-piece : goal.invariant-loop-piece
invariant-loop-piece g l = HoldsText g.H.HashFunction.holds g.H.HashFunction.hash l.mac l.key (l.front ++ concat (map (λ piece. piece.now) (take l.piece-index l.pieces)))
