use Rattle.std.proofs.Common.{◌≡◌, refl, ap, sym, ◌∙◌, arith}
use Rattle.ghash_core.specs.Field.{partial_product, product, times_power, times_x}
use Rattle.ghash_core.proofs.Linear.{partial_product_one, partial_product_zero, times_power_more}
use Rattle.ghash_core.proofs.field.mul.Goals as goal
use Rattle.ghash_core.proofs.field.mul.Goals.{then-x-i-eq1, else-x-i-eq1}

pub coefficients-init : goal.coefficients-init
unfolding partial_product times_power
coefficients-init c = record { sum_so_far = refl; shifted_so_far = refl }

pub coefficients-preserved : goal.coefficients-preserved
coefficients-preserved c =
    let x = c.args.x in
    let y = c.args.y in
    let i = c.coefficients.i in
    let known = c.coefficients.invariant in
    record {
      sum_so_far = elim c.if-x-i-eq1.branch [
        | then-x-i-eq1 w ↦ w.sum-is ∙ partial_product_one x y i _ _ w.if-x-i-eq1.true known.sum_so_far known.shifted_so_far
        | else-x-i-eq1 w ↦ w.sum-is ∙ partial_product_zero x y i _ w.if-x-i-eq1.false known.sum_so_far
      ];
      shifted_so_far = c.times_x-shifted.ensures ∙ ap times_x known.shifted_so_far ∙ sym (times_power_more y i);
    }

pub returns : goal.returns
unfolding product
returns c =
    let done : c.coefficients.i ≡ 128 = omega arith in
    c.coefficients.invariant.sum_so_far ∙ ap (partial_product c.args.x c.args.y) done
