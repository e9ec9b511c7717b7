use Rattle.std.proofs.Common.{◌≡◌, ◌++◌, map, take, drop}
use Rattle.std.specs.Int.Bits.{bit_xor}
use Rattle.hmac_kit.proofs.hmac.masked.Given as goal

-- the bytes so far are masked, the others are as they were
abbrev pub invariant-loop-byte : goal.invariant-loop-byte
invariant-loop-byte l = l.byte-items ≡ map (λ byte. bit_xor byte l.pad) (take l.byte-index l.fn.block) ++ drop l.byte-index l.fn.block
