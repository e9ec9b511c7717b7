-- The two outer lines of a block.
use Rattle.std.specs.Prelude.{ℕ, List, ◌++◌, codes}

-- the line that begins a block, `<NAME>`
abbrev pub block_begin : List ℕ → List ℕ
block_begin name = codes "<" ++ name ++ codes ">"

-- the line that ends it, `</NAME>`
abbrev pub block_end : List ℕ → List ℕ
block_end name = codes "</" ++ name ++ codes ">"
