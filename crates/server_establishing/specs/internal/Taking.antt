-- Addresses that are taken ahead, and given up by a client that is replaced.
use Rattle.std.specs.Prelude.{◌≡◌, List, [], ◌∷◌, ◌++◌, Option, Some, None}
use Rattle.vpn_base.specs.declared.address.Ip4.{Ip4}
use Rattle.address_pool.specs.declared.Pool.{Pool}
use Rattle.address_pool.specs.Holds.{Holds}
use Rattle.address_pool.specs.LeastFree.{Takings, with_taking}

-- an address was among these, and the others are left
pub record IsGivenUp (a : Ip4) (was left : List Ip4) : Type 0 where
  pub front : List Ip4
  pub behind : List Ip4
  pub among : was ≡ front ++ a ∷ behind
  pub others : left ≡ front ++ behind

-- the same, where there may be none
abbrev pub GivesUp : Option Ip4 → List Ip4 → List Ip4 → Type 0
GivesUp None was left = left ≡ was
GivesUp (Some a) was left = IsGivenUp a was left

-- a pool holds the taking of an address more, in front of the others, or none more
abbrev pub Takes : Pool → Pool → Option Ip4 → Type 0
Takes before after None = (t : Takings) → Holds before t → Holds after t
Takes before after (Some a) = (t : Takings) → Holds before t → Holds after (with_taking t [] a t.taken)
