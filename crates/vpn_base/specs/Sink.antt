-- What a sink outside holds.
use Rattle.std.specs.Prelude.{ℕ, List, ◌++◌, Option, option_map}

-- what it holds with these bytes at its end, where it is told
abbrev pub appended : Option (List ℕ) → List ℕ → Option (List ℕ)
appended contents bytes = option_map (λ held. held ++ bytes) contents
