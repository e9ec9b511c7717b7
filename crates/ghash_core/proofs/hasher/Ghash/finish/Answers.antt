use Rattle.ghash_core.specs.Hasher.{Holds}
use Rattle.ghash_core.proofs.hasher.Ghash.finish.Goals as goal

pub returns : goal.returns
unfolding Holds
returns c = λ h blocks held. held.1
