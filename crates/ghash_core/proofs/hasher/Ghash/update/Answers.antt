use Rattle.std.proofs.Common.{ℕ, bit_xor, ap, ◌∙◌}
use Rattle.ghash_core.specs.Field.{product}
use Rattle.ghash_core.specs.Ghash.{element}
use Rattle.ghash_core.specs.Hasher.{Holds}
use Rattle.ghash_core.proofs.Blocks.{ghash_push}
use Rattle.ghash_core.proofs.hasher.Ghash.update.Goals as goal

pub returns : goal.returns
unfolding Holds
returns c = λ h blocks held. (
  held.0,
  c.mul-self.ensures
      ∙ ap (λ (x : ℕ). product (bit_xor c.args.self.now.sum x) c.args.self.now.key) c.from_be_bytes.ensures
      ∙ ap (product (bit_xor c.args.self.now.sum (element c.args.block))) held.0
      ∙ ghash_push h c.args.self.now.sum blocks c.args.block held.1,
)
