use Rattle.std.proofs.Common.{◌≡◌}
use Rattle.ghash_core.specs.Field.{partial_product, times_power}
use Rattle.ghash_core.proofs.field.mul.Given as goal

abbrev pub invariant-coefficients : goal.invariant-coefficients
invariant-coefficients l = record {
  sum_so_far : l.sum ≡ partial_product l.x l.y l.i;
  shifted_so_far : l.shifted ≡ times_power l.y l.i;
}
