use Rattle.ghash_core.specs.Ghash.{first_blocks}
use Rattle.ghash_core.specs.Hasher.{Holds}
use Rattle.ghash_core.proofs.hasher.ghash_of.Given as goal

abbrev pub invariant-each_block : goal.invariant-each_block
invariant-each_block l = Holds l.hasher l.h (first_blocks l.bytes l.i)
