-- The least peer id that nobody has.
use Rattle.std.specs.Prelude.{◌≡◌, ℕ, zero, suc, ◌<◌, Bool, true, false, List, length}
use Rattle.std.specs.List.{list_any}
use Rattle.client_table.specs.Changes.{by_key}
use Rattle.client_table.specs.Entries.{Entry}
use Rattle.client_table.specs.Finding.{has_peer_id}

-- a number, or a later one where a client has it
abbrev pub unless_used : Bool → ℕ → ℕ → ℕ
unless_used true n later = later
unless_used false n later = n

-- of so many numbers from this one on the first that no item has, or the one behind them
abbrev pub unused_from : {X : Type 0} → (ℕ → X → Bool) → ℕ → ℕ → List X → ℕ
unused_from has zero n xs = n
unused_from has (suc most) n xs = unless_used (list_any (has n) xs) n (unused_from has most (suc n) xs)

-- a number is the least that no item has
pub record IsLeastUnused {X : Type 0} (has : ℕ → X → Bool) (n : ℕ) (xs : List X) : Type 0 where
  pub unused : list_any (has n) xs ≡ false
  pub least : (m : ℕ) → m < n → list_any (has m) xs ≡ true

-- the least number that no client has as its peer id: of as many numbers as there are clients, or the one behind them
abbrev pub free_peer_id : {V : Type 0} → List (Entry V) → ℕ
free_peer_id es = unused_from (λ n. by_key (has_peer_id n)) (length es) 0 es
