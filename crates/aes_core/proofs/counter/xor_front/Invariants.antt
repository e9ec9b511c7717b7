use Rattle.std.proofs.Common.{◌≡◌, ◌-◌, ◌++◌, take, drop}
use Rattle.aes_core.specs.Field.{xor_bytes}
use Rattle.aes_core.proofs.counter.xor_front.Given as goal

abbrev pub invariant-bytes : goal.invariant-bytes
invariant-bytes l =
    l.bytes ≡ take l.at l.fn.bytes ++ xor_bytes (drop l.at l.fn.bytes) (take (l.i - l.at) l.block)
