-- The words of a line that stand behind the first one.
use Rattle.std.specs.Prelude.{ℕ, List, [], Option, Some, None}
use Rattle.schedule_text.specs.Words.{words_of}

-- the words of a text that is there or not
abbrev pub arguments_of : Option (List ℕ) → List (List ℕ)
arguments_of None = []
arguments_of (Some text) = words_of text
