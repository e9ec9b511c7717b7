-- Parts of a text of bytes are texts of bytes.
use Rattle.std.proofs.Common.{ℕ, zero, suc, ◌<◌, List, [], ◌∷◌, get_or, take, drop, arith}
use Rattle.byte_texts.specs.Texts.{IsBytes}

-- a byte in front of bytes
pub IsBytes-cons : (b : ℕ) (text : List ℕ) → b < 256 → IsBytes text → IsBytes (b ∷ text)
IsBytes-cons b text small rest = at_place
  where
    at_place : (i : ℕ) → get_or (b ∷ text) i 0 < 256
    at_place zero = small
    at_place (suc i) = rest i

pub IsBytes-take : (n : ℕ) (text : List ℕ) → IsBytes text → IsBytes (take n text)
IsBytes-take zero text small = λ i. omega arith
IsBytes-take (suc n) [] small = small
IsBytes-take (suc n) (b ∷ text) small = IsBytes-cons b (take n text) (small 0) (IsBytes-take n text (λ i. small (suc i)))

pub IsBytes-drop : (n : ℕ) (text : List ℕ) → IsBytes text → IsBytes (drop n text)
IsBytes-drop zero text small = small
IsBytes-drop (suc n) [] small = small
IsBytes-drop (suc n) (b ∷ text) small = IsBytes-drop n text (λ i. small (suc i))
