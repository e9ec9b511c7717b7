use Rattle.std.proofs.Common.{refl}
use Rattle.ghash_core.specs.Ghash.{ghash, ghash_from}
use Rattle.ghash_core.specs.Hasher.{Holds}
use Rattle.ghash_core.proofs.hasher.Ghash.new.Goals as goal

pub returns : goal.returns
unfolding Holds ghash ghash_from
returns c = (c.new.ensures, refl)
