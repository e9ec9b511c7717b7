use Rattle.std.proofs.Common.{ap, ◌∙◌}
use Rattle.ghash_core.specs.Ghash.{element}
use Rattle.gcm_seal.specs.Gcm.{hash_key}
use Rattle.gcm_seal.proofs.gcm.Gcm.new.Goals as goal

pub invariant_of-result : goal.invariant_of-result
unfolding hash_key
invariant_of-result c = c.new-hash.ensures ∙ c.from_be_bytes.ensures ∙ ap element c.block.ensures
