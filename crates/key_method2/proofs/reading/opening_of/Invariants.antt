use Rattle.std.proofs.Common.{◌≡◌, ℕ, ◌<◌, get_or}
use Rattle.key_method2.specs.Message.{opening}
use Rattle.key_method2.proofs.reading.opening_of.Given as goal

abbrev pub invariant-loop-place : goal.invariant-loop-place
invariant-loop-place l = (k : ℕ) → k < l.place → get_or l.bytes k 0 ≡ get_or opening k 0
