use Rattle.std.proofs.Common.{◌≡◌, ℕ, ◌*◌, ◌/◌, ◌%◌, ◌^◌, ◌<◌, length, slice_index}
use Rattle.ghash_core.specs.Field.{product}
use Rattle.ghash_core.proofs.hash_key.HashKey.new.Given as goal

abbrev pub invariant-multiples : goal.invariant-multiples
invariant-multiples l = record {
  whole : length l.multiples ≡ 512;
  multiples_so_far : (k : ℕ) → k < l.index → slice_index l.multiples k ≡ product (k % 16 * 2 ^ (4 * (k / 16))) l.h;
}
