-- Masks of at most 32 ones.
use Rattle.std.specs.Prelude.{ℕ, ◌≤◌}
use Rattle.push_options.specs.declared.received.Meaning.{Meaning}
use Rattle.push_options.specs.declared.received.Meaning.TheVariants as options

-- an address that an option says has such a mask
abbrev pub IsMasked : Meaning → Type 0
IsMasked (options.Address a len) = len ≤ 32
IsMasked _ = Unit {0}
