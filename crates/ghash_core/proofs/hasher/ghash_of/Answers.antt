use Rattle.std.proofs.Common.{◌≡◌, ℕ, ◌+◌, ◌-◌, ◌*◌, List, ◌∷◌, [], ◌++◌, length, min, ap, subst, ◌∙◌, arith}
use Rattle.std.specs.Int.{div_ceil}
use Rattle.ghash_core.specs.Ghash.{first_blocks, ghash, padded_blocks}
use Rattle.ghash_core.specs.Hasher.{Holds}
use Rattle.ghash_core.proofs.Blocks.{block_fed}
use Rattle.ghash_core.proofs.hasher.ghash_of.Goals as goal

pub each_block-init : goal.each_block-init
unfolding first_blocks
each_block-init c = c.new-hasher.ensures

pub each_block-preserved : goal.each_block-preserved
each_block-preserved c =
    let bytes = c.args.bytes.now in
    let i = c.each_block.i in
    let fed = c.update.ensures c.args.h (first_blocks bytes i) c.each_block.invariant in
    let size : c.min-end.result - 16 * i ≡ min (length bytes) (16 * i + 16) - 16 * i = omega arith in
    let next =
    ap (λ (b : List ℕ). first_blocks bytes i ++ b ∷ []) c.filled_up.ensures
    ∙ block_fed bytes i (c.min-end.result - 16 * i) (omega arith) size in
    subst (λ (blocks : List (List ℕ)). Holds c.update.new.self c.args.h blocks) next fed

pub returns : goal.returns
unfolding padded_blocks
returns c =
    let done : c.each_block.i ≡ div_ceil (length c.args.bytes.now) 16 = omega arith in
    c.finish.ensures c.args.h (first_blocks c.args.bytes.now c.each_block.i) c.each_block.invariant
    ∙ ap (λ (n : ℕ). ghash c.args.h (first_blocks c.args.bytes.now n)) done
