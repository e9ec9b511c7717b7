use Rattle.std.proofs.Common.{◌≡◌, ℕ, ◌<◌, length, slice_index}
use Rattle.ghash_core.specs.Field.{times_power}
use Rattle.ghash_core.proofs.hash_key.powers_of.Given as goal

abbrev pub invariant-powers : goal.invariant-powers
invariant-powers l = record {
  whole : length l.powers ≡ 128;
  powers_so_far : (k : ℕ) → k < l.i → slice_index l.powers k ≡ times_power l.element k;
  shifted_so_far : l.shifted ≡ times_power l.element l.i;
}
