-- A sender's pieces, the packets that carry them, and what is read of them.
use Rattle.std.specs.Prelude.{◌≡◌, ℕ, List, ◌++◌, Some, slice_get}
use Rattle.std.specs.List.{AllByRecursion}
use Rattle.reliable_recv.specs.Receiving.{Arrival}

-- each of these packets carries the piece of its id, counted from 0
abbrev pub CarryPieces : List (List ℕ) → List Arrival → Type 0
CarryPieces pieces arrivals = AllByRecursion (λ (a : Arrival). slice_get pieces a.0 ≡ Some a.1) arrivals

-- the second list begins with the first
pub record IsPrefix (front whole : List ℕ) : Type 0 where
  pub rest : List ℕ
  pub follows : whole ≡ front ++ rest
