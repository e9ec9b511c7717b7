-- Counts beside a taking that is given up.
use Rattle.std.specs.Prelude.{◌≡◌, ℕ, ◌-◌, ◌==◌, List, count_by, Option, Some, None, if◌then◌else◌}
use Rattle.std.specs.BTreeMap.{BTreeMap}
use Rattle.vpn_base.specs.declared.address.Ip4.{Ip4}
use Rattle.address_pool.specs.declared.Pool.{Pool}
use Rattle.address_pool.specs.Counts.{count_of}

-- how many takings of a number are given up
abbrev pub given_up_of : Option ℕ → ℕ → ℕ
given_up_of None n = 0
given_up_of (Some given) n = if given == n then 1 else 0

-- how often a number was taken, beside that
abbrev pub count_beside : BTreeMap ℕ ℕ → Option ℕ → ℕ → ℕ
count_beside counts given_up n = count_of counts n - given_up_of given_up n

-- beside the taking that is given up, a pool counts these addresses
abbrev pub CountsBeside : Pool → Option ℕ → List Ip4 → Type 0
CountsBeside pool given_up rest = (n : ℕ) → count_beside pool.counts given_up n ≡ count_by (λ a. a.0 == n) rest
