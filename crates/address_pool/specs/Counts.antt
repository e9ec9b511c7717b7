-- Counts of numbers.
use Rattle.std.specs.Prelude.{ℕ, unwrap_or}
use Rattle.std.specs.BTreeMap.{BTreeMap, get}
use Rattle.std.specs.Ordering.{nat_cmp}

-- how often the map says that this number was taken
abbrev pub count_of : BTreeMap ℕ ℕ → ℕ → ℕ
count_of counts n = unwrap_or (get nat_cmp counts n) 0
