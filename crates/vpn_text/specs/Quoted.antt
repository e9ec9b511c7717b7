-- Words written so that a line has them again, and texts that may be pushed to a client.
use Rattle.std.specs.Prelude.{ℕ, ◌==◌, ◌&&◌, ◌||◌, nat_le, not, Bool, List, [], ◌∷◌, ◌++◌, length, if◌then◌else◌}
use Rattle.std.specs.List.{list_all, list_any}

-- a byte that means more than itself somewhere in a line: a blank, a quote of either kind, a backslash,
-- `#` or `;`
abbrev pub is_special : ℕ → Bool
is_special c = (c == 32) || (c == 9) || (c == 39) || (c == 34) || (c == 92) || (c == 35) || (c == 59)

-- whether a word can't stand as it is
abbrev pub needs_quotes : List ℕ → Bool
needs_quotes word = (length word == 0) || list_any is_special word

-- a word for double quotes: a backslash in front of each double quote and each backslash
abbrev pub escaped : List ℕ → List ℕ
escaped [] = []
escaped (c ∷ cs) = if (c == 34) || (c == 92) then 92 ∷ (c ∷ escaped cs) else c ∷ escaped cs

-- the text of a word in a line
unfoldable pub quoted : List ℕ → List ℕ
quoted word = if needs_quotes word then 34 ∷ (escaped word ++ 34 ∷ []) else word

-- a text that can be an option of a push reply: at most 255 bytes, and no comma, which divides options
unfoldable pub may_be_pushed : List ℕ → Bool
may_be_pushed text = nat_le (length text) 255 && list_all (λ c. not (c == 44)) text
