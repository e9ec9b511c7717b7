use Rattle.std.proofs.Common.{◌≡◌, ℕ, ◌/◌, length, bit_xor, ap, sym, ◌∙◌, refl, arith}
use Rattle.ghash_core.specs.Field.{product}
use Rattle.ghash_core.specs.Ghash.{element, first_blocks, ghash_from}
use Rattle.ghash_core.proofs.Blocks.{whole_block_more, last_block_more, no_block_more}
use Rattle.ghash_core.proofs.Pieces.{piece_more}
use Rattle.ghash_core.proofs.hash_key.HashKey.absorb.Goals as goal

pub whole_blocks-init : goal.whole_blocks-init
unfolding ghash_from first_blocks
whole_blocks-init c = refl

pub whole_blocks-preserved : goal.whole_blocks-preserved
whole_blocks-preserved c =
    c.mul-sum.ensures
    ∙ ap (λ (x : ℕ). product (bit_xor c.whole_blocks.sum x) c.args.self.now) c.element_at.ensures
    ∙ whole_block_more c.args.self.now c.args.sum c.whole_blocks.i c.whole_blocks.sum c.args.bytes.now (omega arith) c.whole_blocks.invariant

pub returns-then-is_empty-clause-padded : goal.returns-then-is_empty-clause-padded
returns-then-is_empty-clause-padded c =
    let count : c.whole_blocks.i ≡ length c.args.bytes.now / 16 = omega arith in
    no_block_more c.args.self.now c.args.sum c.whole_blocks.i c.whole_blocks.sum c.args.bytes.now count (sym c.is_empty.ensures ∙ c.if-is_empty.true) c.whole_blocks.invariant

pub returns-then-is_empty-clause-behind : goal.returns-then-is_empty-clause-behind
returns-then-is_empty-clause-behind c = λ first before whole so_far.
    returns-then-is_empty-clause-padded c ∙ piece_more c.args.self.now first c.args.sum before c.args.bytes.now whole so_far

pub returns-clause-padded : goal.returns-clause-padded
returns-clause-padded c =
    let count : c.whole_blocks.i ≡ length c.args.bytes.now / 16 = omega arith in
    c.mul.ensures
    ∙ ap (λ (x : ℕ). product (bit_xor c.whole_blocks.sum x) c.args.self.now) (c.from_be_bytes.ensures ∙ ap element c.filled_up.ensures)
    ∙ last_block_more c.args.self.now c.args.sum c.whole_blocks.i c.whole_blocks.sum c.args.bytes.now count (sym c.is_empty.ensures ∙ c.if-is_empty.false) c.whole_blocks.invariant

pub returns-clause-behind : goal.returns-clause-behind
returns-clause-behind c = λ first before whole so_far.
    returns-clause-padded c ∙ piece_more c.args.self.now first c.args.sum before c.args.bytes.now whole so_far
