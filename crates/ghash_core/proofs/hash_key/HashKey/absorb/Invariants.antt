use Rattle.std.proofs.Common.{◌≡◌}
use Rattle.ghash_core.specs.Ghash.{first_blocks, ghash_from}
use Rattle.ghash_core.proofs.hash_key.HashKey.absorb.Given as goal

abbrev pub invariant-whole_blocks : goal.invariant-whole_blocks
invariant-whole_blocks l = l.sum ≡ ghash_from l.self l.fn.sum (first_blocks l.bytes l.i)
