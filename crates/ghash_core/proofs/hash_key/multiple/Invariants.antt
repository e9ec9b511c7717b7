use Rattle.std.proofs.Common.{◌≡◌, ℕ, ◌*◌, ◌/◌, ◌%◌, ◌^◌}
use Rattle.ghash_core.specs.Field.{product}
use Rattle.ghash_core.specs.internal.Multiples.{ArePowers}
use Rattle.ghash_core.proofs.hash_key.multiple.Given as goal

abbrev pub invariant-bits : goal.invariant-bits
invariant-bits l =
    (y : ℕ) → ArePowers l.powers y → l.sum ≡ product (l.index % 16 % 2 ^ l.bit * 2 ^ (4 * (l.index / 16))) y
