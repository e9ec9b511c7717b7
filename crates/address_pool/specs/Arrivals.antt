-- The addresses of clients that come one after another and stay.
use Rattle.std.specs.Prelude.{List, [], ◌∷◌, ◌++◌, Option, Some, None, Result, Ok, Err}
use Rattle.vpn_base.specs.declared.address.Ip4.{Ip4}
use Rattle.address_pool.specs.declared.PoolEmpty.{PoolEmpty}
use Rattle.address_pool.specs.LeastFree.{least_free, given}

-- a client's own address, or else the least one that nobody has
abbrev pub next_address : Ip4 → Ip4 → List Ip4 → Option Ip4 → Result Ip4 PoolEmpty
next_address first last taken (Some own) = Ok own
next_address first last taken None = given (least_free first last taken)

-- what follows an address, if there is one
abbrev pub and_then : Result Ip4 PoolEmpty → (Ip4 → Result (List Ip4) PoolEmpty) → Result (List Ip4) PoolEmpty
and_then (Ok a) rest = rest a
and_then (Err e) rest = Err e

-- the addresses of clients that want these, behind those that were taken before
abbrev pub addresses_from : Ip4 → Ip4 → List Ip4 → List (Option Ip4) → Result (List Ip4) PoolEmpty
addresses_from first last taken [] = Ok taken
addresses_from first last taken (own ∷ wanted) =
    and_then (next_address first last taken own) (λ a. addresses_from first last (taken ++ a ∷ []) wanted)
