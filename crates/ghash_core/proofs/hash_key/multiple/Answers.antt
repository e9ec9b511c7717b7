use Rattle.std.proofs.Common.{◌≡◌, ℕ, ◌-◌, ◌*◌, ◌/◌, ◌%◌, ◌^◌, bit_xor, ap, ◌∙◌, arith}
use Rattle.ghash_core.specs.Field.{product}
use Rattle.ghash_core.proofs.Linear.{product_no_bits, product_bit_one, product_bit_zero}
use Rattle.ghash_core.proofs.hash_key.multiple.Goals as goal
use Rattle.ghash_core.proofs.hash_key.multiple.Goals.{then-digit-bit-eq1, else-digit-bit-eq1}

pub bits-init : goal.bits-init
bits-init c = λ y powers. product_no_bits (c.args.index % 16) y (4 * (c.args.index / 16))

pub bits-preserved : goal.bits-preserved
bits-preserved c = λ y powers.
    let digit = c.args.index % 16 in
    let place = 4 * (c.args.index / 16) in
    let i = 127 - place - c.bits.bit in
    let so_far = c.bits.invariant y powers in
    elim c.if-digit-bit-eq1.branch [
      | then-digit-bit-eq1 w ↦
          w.sum-is
          ∙ ap (bit_xor c.bits.sum) (powers i (omega arith))
          ∙ product_bit_one digit y place c.bits.bit i _ w.if-digit-bit-eq1.true (omega arith) so_far
      | else-digit-bit-eq1 w ↦
          w.sum-is ∙ product_bit_zero digit y place c.bits.bit _ w.if-digit-bit-eq1.false so_far
    ]

pub returns : goal.returns
returns c = λ y powers.
    let done : c.bits.bit ≡ 4 = omega arith in
    let small : c.args.index % 16 % 2 ^ 4 ≡ c.args.index % 16 = omega arith in
    c.bits.invariant y powers
    ∙ ap (λ (k : ℕ). product (c.args.index % 16 % 2 ^ k * 2 ^ (4 * (c.args.index / 16))) y) done
    ∙ ap (λ (d : ℕ). product (d * 2 ^ (4 * (c.args.index / 16))) y) small
