-- What contracts see of a receiving side, and what of everything that was taken it keeps.
use Rattle.std.specs.Prelude.{◌≡◌, ℕ, ◌<◌, ◌≤◌, IsSome}
use Rattle.reliable_recv.specs.Receiving.{Receiving, payload_of}

-- what is kept, and how many bytes of the next payload there is room for
pub record Side : Type 0 where
  pub kept : Receiving
  pub spare : ℕ

-- what keeps some of the payloads stands for what has all: those that are not read yet are kept, and those that were read had been taken
pub record IsKeptOf (kept history : Receiving) : Type 0 where
  pub read : kept.read ≡ history.read
  pub waiting : kept.waiting ≡ history.waiting
  pub unread : (id : ℕ) → history.read ≤ id → payload_of kept.taken id ≡ payload_of history.taken id
  pub were_taken : (id : ℕ) → id < history.read → IsSome (payload_of history.taken id)

-- the same of a side as one word, which callers do not look into
unfoldable pub Stands : Side → Receiving → Type 0
Stands side history = IsKeptOf side.kept history
