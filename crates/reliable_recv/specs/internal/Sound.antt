-- What holds of every receiving side.
use Rattle.std.specs.Prelude.{◌≡◌, ℕ, ◌+◌, ◌^◌, ◌<◌, ◌≤◌, List, [], ◌∷◌, None, IsSome}
use Rattle.reliable_recv.specs.Receiving.{Arrival, payload_of}

-- no id comes twice
abbrev pub AreOnce : List Arrival → Type 0
AreOnce [] = Unit {0}
AreOnce (a ∷ arrivals) = (payload_of arrivals a.0 ≡ None) × AreOnce arrivals

-- each id lies less than 12 above this number
abbrev pub AreNear : ℕ → List Arrival → Type 0
AreNear read arrivals = (id : ℕ) → IsSome (payload_of arrivals id) → (read ≤ id) × (id < read + 12)

-- no more was read than there are ids; each id that is held is near and is held once; at most 8 ids wait; there is room for as many, and places for 12 packets; and the spare room is empty
pub record IsSound (held : List Arrival) (read count capacity places : ℕ) (spare : List ℕ) : Type 0 where
  pub bound : read ≤ 2 ^ 32
  pub once : AreOnce held
  pub near : AreNear read held
  pub waits : count ≤ 8
  pub room : 8 ≤ capacity
  pub fit : 12 ≤ places
  pub empty : spare ≡ []
