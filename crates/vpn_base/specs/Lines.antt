-- The lines of a text.
use Rattle.std.specs.Prelude.{◌≡◌, ℕ, ◌+◌, ◌==◌, Bool, true, false, List, [], ◌∷◌, length, if◌then◌else◌}
use Rattle.std.specs.List.{slice_split}
use Rattle.std.specs.Str.Lines.{strip_carriage_return}

-- a line without its line feed, and whether one ends it
pub record Line : Type 0 where
  pub body : List ℕ
  pub ended : Bool

-- the lines in the parts between line feeds; an empty last part is no line
abbrev pub lines_of_parts : List (List ℕ) → List Line
lines_of_parts [] = []
lines_of_parts (last ∷ []) = if length last == 0 then [] else record { body = last; ended = false } ∷ []
lines_of_parts (part ∷ next ∷ parts) = record { body = part; ended = true } ∷ lines_of_parts (next ∷ parts)

-- the lines of a text
unfoldable pub lines_of : List ℕ → List Line
lines_of text = lines_of_parts (slice_split (λ c. c == 10) text)

-- a line without its end: a line feed, or a carriage return and a line feed
abbrev pub content : Line → List ℕ
content line = if line.ended then strip_carriage_return line.body else line.body

-- how many bytes of the file a line takes, its line feed included
abbrev pub size : Line → ℕ
size line = length line.body + (if line.ended then 1 else 0)

-- the text begins with a line of this content, and the rest stands behind its end
pub record BeginsWith (text line rest : List ℕ) : Type 0 where
  pub first : Line
  pub begins : lines_of text ≡ first ∷ lines_of rest
  pub shows : content first ≡ line
  pub takes : size first + length rest ≡ length text
