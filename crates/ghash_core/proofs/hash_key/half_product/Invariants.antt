use Rattle.std.proofs.Common.{◌≡◌, ℕ, ◌*◌, ◌%◌, ◌^◌}
use Rattle.ghash_core.specs.Field.{product}
use Rattle.ghash_core.specs.internal.Multiples.{AreMultiples}
use Rattle.ghash_core.proofs.hash_key.half_product.Given as goal

abbrev pub invariant-places : goal.invariant-places
invariant-places l =
    (y : ℕ) → AreMultiples l.multiples y → l.sum ≡ product (l.half % 2 ^ (4 * l.place) * 2 ^ (4 * l.first_place)) y
