-- Lists of bytes, and the pair of bytes that a text's size is.
use Rattle.std.proofs.Common.{◌≡◌, ℕ, zero, suc, ◌+◌, ◌<◌, List, [], ◌∷◌, drop, get_or, refl, arith}
use Rattle.std.specs.Int.{w16, from_be_bytes, to_be_bytes}
use Rattle.std.proofs.lemmas.List.{get_or-drop}
use Rattle.std.proofs.lemmas.Nat.{be_bytes_2}

-- each is a byte
abbrev pub IsBytes : List ℕ → Type 0
IsBytes bytes = (i : ℕ) → get_or bytes i 0 < 256

pub IsBytes-drop : (n : ℕ) (bytes : List ℕ) → IsBytes bytes → IsBytes (drop n bytes)
IsBytes-drop n bytes h i = rw get_or-drop (h (n + i))

-- the size that two bytes spell
abbrev pub size_of : ℕ → ℕ → ℕ
size_of high low = from_be_bytes w16 (high ∷ low ∷ [])

pub size_fits : (high low : ℕ) → high < 256 → low < 256 → size_of high low < 65536
size_fits high low h l = omega arith

pub size_spelled : (high low : ℕ) → high < 256 → low < 256 → to_be_bytes w16 (size_of high low) ≡ high ∷ low ∷ []
size_spelled high low h l = be_bytes_2 (high ∷ low ∷ []) (size_of high low) refl (λ i. two i) refl where
  two : (i : ℕ) → get_or (high ∷ low ∷ []) i 0 < 256
  two zero = h
  two (suc zero) = l
  two (suc (suc i)) = omega arith
