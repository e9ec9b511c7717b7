-- What files outside hold, and what is copied from them.
use Rattle.std.specs.Prelude.{◌≡◌, ℕ, ◌<◌, ◌≤◌, List, length, take, drop}

-- what is told of the file of a name: nothing, that there is none, or its bytes
pub data Holding : Type 0 where
  Untold : Holding
  Absent : Holding
  Held : List ℕ → Holding

-- n bytes from this place on now stand at the front of the buffer, and 0 of them only at the end
abbrev pub Copied : Holding → ℕ → ℕ → List ℕ → Type 0
Copied Untold at n buffer = Unit {0}
Copied Absent at n buffer = ⊥
Copied (Held bytes) at n buffer = (take n buffer ≡ take n (drop at bytes)) × (n ≤ length (drop at bytes))
    × (0 < length buffer → n ≡ 0 → length bytes ≤ at)

-- where the file is told, it is not there
abbrev pub IsMissing : Holding → Type 0
IsMissing Untold = Unit {0}
IsMissing Absent = Unit {0}
IsMissing (Held bytes) = ⊥
