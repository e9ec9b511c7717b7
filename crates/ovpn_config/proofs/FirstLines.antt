-- The first of some lines, with those behind it.
use Rattle.std.proofs.Common.{◌≡◌, ℕ, ◌+◌, ◌<◌, ◌==◌, List, [], ◌∷◌, ◌++◌, length, true, false, Option, refl, ap, ◌∙◌, arith}
use Rattle.std.specs.Prelude.{All}
use Rattle.std.specs.List.{slice_split}
use Rattle.std.proofs.lemmas.List.Splits.{slice_split_at, length-slice_split}
use Rattle.vpn_base.specs.Lines.{Line, content, lines_of, lines_of_parts, size}
use Rattle.config_directives.specs.Entries.{block_behind, entries, line_behind, line_entries, line_with}

more_parts : (line : List ℕ) (parts : List (List ℕ)) → 0 < length parts → lines_of_parts (line ∷ parts) ≡ record { body = line; ended = true } ∷ lines_of_parts parts
more_parts line [] some = absurd (omega arith)
more_parts line (next ∷ parts) some = refl

-- the first line of a text ends with its first line feed
pub line_first : (line rest : List ℕ) → All (λ c. (c == 10) ≡ false) line → lines_of (line ++ 10 ∷ rest) ≡ record { body = line; ended = true } ∷ lines_of rest
unfolding lines_of
line_first line rest clean =
    ap lines_of_parts (slice_split_at (λ c. c == 10) line 10 rest clean refl)
    ∙ more_parts line (slice_split (λ c. c == 10) rest) (omega (arith, length-slice_split (λ c. c == 10) rest))

-- what it holds, and what those behind it hold
pub entries-first : (block : Option (List ℕ)) (number before : ℕ) (lines later : List Line) (first : Line) → lines ≡ first ∷ later
    → entries block number before lines
    ≡ line_entries block (line_behind number before first) later
    ++ entries (block_behind block (line_behind number before first)) (number + 1) (before + size first) later
unfolding entries
entries-first block number before lines later first begins = ap (entries block number before) begins

-- its number, its bytes, and how far the file reaches with it
pub seen : (number before : ℕ) (first : Line) (line : List ℕ) (reached : ℕ) → content first ≡ line → before + size first ≡ reached
    → line_behind number before first ≡ line_with (number + 1) line reached
seen number before first line reached shows sum =
    ap (λ (b : List ℕ). line_with (number + 1) b (before + size first)) shows ∙ ap (line_with (number + 1) line) sum
