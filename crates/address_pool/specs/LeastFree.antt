-- Addresses of a range that are given to clients, and the next one that is free.
use Rattle.std.specs.Prelude.{ℕ, ◌+◌, ◌-◌, ◌==◌, not, Bool, List, ◌∷◌, ◌++◌, find, option_map, Option, Some, None, Result, Ok, Err}
use Rattle.std.specs.List.{list_any, range_with_len}
use Rattle.vpn_base.specs.declared.address.Ip4.{Ip4}
use Rattle.address_pool.specs.declared.PoolEmpty.{PoolEmpty}

-- the range from the first to the last address, and the addresses that were taken and not given back,
-- one that was taken several times as often
pub record Takings : Type 0 where
  pub first : Ip4
  pub last : Ip4
  pub taken : List Ip4

-- the address of this number is among these
abbrev pub is_taken : List Ip4 → ℕ → Bool
is_taken taken n = list_any (λ a. a.0 == n) taken

-- of the addresses from the first to the last the least that is not among those taken
unfoldable pub least_free : Ip4 → Ip4 → List Ip4 → Option Ip4
least_free first last taken =
    option_map (λ n. record { 0 = n }) (find (λ n. not (is_taken taken n)) (range_with_len first.0 (last.0 + 1 - first.0)))

-- the address, or that there is none
abbrev pub given : Option Ip4 → Result Ip4 PoolEmpty
given (Some a) = Ok a
given None = Err (record {})

-- one taking more, at any place among the others
abbrev pub with_taking : Takings → List Ip4 → Ip4 → List Ip4 → Takings
with_taking t before a after = record { first = t.first; last = t.last; taken = before ++ a ∷ after }

-- only these takings
abbrev pub with_taken : Takings → List Ip4 → Takings
with_taken t taken = record { first = t.first; last = t.last; taken = taken }
