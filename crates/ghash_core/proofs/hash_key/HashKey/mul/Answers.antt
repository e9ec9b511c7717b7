use Rattle.std.proofs.Common.{ℕ, ◌%◌, ◌*◌, ◌^◌, bit_xor, ap, ◌∙◌}
use Rattle.std.proofs.lemmas.Nat.{and_mask}
use Rattle.ghash_core.specs.Field.{product}
use Rattle.ghash_core.proofs.Table.{product_halves}
use Rattle.ghash_core.proofs.hash_key.HashKey.mul.Goals as goal

pub returns : goal.returns
returns c =
    let key = c.self.inside.key in
    let low = c.half_product.ensures key c.self.invariant in
    let high = c.half_product-2.ensures key c.self.invariant in
    ap (λ (z : ℕ). bit_xor z c.half_product-2.result) (low ∙ ap (λ (z : ℕ). product (z * 2 ^ (4 * 0)) key) (and_mask c.args.x 64))
    ∙ ap (bit_xor (product (c.args.x % 2 ^ 64 * 2 ^ (4 * 0)) key)) high
    ∙ product_halves c.args.x key
    ∙ ap (product c.args.x) c.self.view_is
