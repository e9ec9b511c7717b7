-- All texts of a length, and the search among them.
use Rattle.std.specs.Prelude.{ℕ, zero, suc, ◌<◌, Bool, List, [], ◌∷◌, map, flat_map, find, slice_index, Option}
use Rattle.std.specs.List.{range_with_len}

-- each element is a byte
abbrev pub IsBytes : List ℕ → Type 0
IsBytes text = (i : ℕ) → slice_index text i < 256

-- all bytes
unfoldable pub bytes : List ℕ
bytes = range_with_len 0 256

-- all texts of a length: each byte in front of each text that is one shorter
unfoldable pub texts_of_length : ℕ → List (List ℕ)
texts_of_length zero = [] ∷ []
texts_of_length (suc n) = flat_map (λ b. map (λ text. b ∷ text) (texts_of_length n)) bytes

-- the first text of a length that passes a test
unfoldable pub text_with : (List ℕ → Bool) → ℕ → Option (List ℕ)
text_with passes n = find passes (texts_of_length n)
