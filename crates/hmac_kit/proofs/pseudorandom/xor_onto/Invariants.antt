use Rattle.std.proofs.Common.{◌≡◌, take}
use Rattle.hmac_kit.specs.Prf.{xor_bytes}
use Rattle.hmac_kit.proofs.pseudorandom.xor_onto.Given as goal

abbrev pub invariant-loop-k : goal.invariant-loop-k
invariant-loop-k l = l.out ≡ xor_bytes l.fn.out (take l.k l.block)
