-- Bytes, and what a reader that ends early answers.
use Rattle.std.proofs.Common.{◌≡◌, ℕ, ◌+◌, ◌<◌, ◌≤◌, Bool, true, false, cond, ltb, List, get_or, take, drop, Ok, Err, refl, arith, inl, inr}
use Rattle.std.proofs.lemmas.Bool.{cases_lt}
use Rattle.std.proofs.lemmas.List.{length-take, get_or_past, get_or-drop, get_or-take}
use Rattle.vpn_base.specs.declared.names.Malformed.{Malformed}

-- ---- bytes

abbrev pub IsBytes : List ℕ → Type 0
IsBytes bytes = (i : ℕ) → get_or bytes i 0 < 256

pub IsBytes-take : (n : ℕ) (bytes : List ℕ) → IsBytes bytes → IsBytes (take n bytes)
IsBytes-take n bytes h i =
    elim (cases_lt i n) [
      | inl lt ↦ rw (get_or-take n bytes i 0 lt) (h i)
      | inr le ↦ rw (get_or_past (take n bytes) i 0 (omega (arith, length-take n bytes))) (omega arith)
    ]

pub IsBytes-drop : (n : ℕ) (bytes : List ℕ) → IsBytes bytes → IsBytes (drop n bytes)
IsBytes-drop n bytes h i = rw get_or-drop (h (n + i))

-- ---- tests

pub enough : (n m : ℕ) → m ≤ n → ltb n m ≡ false
enough n m h = grind arith

pub below : (n m : ℕ) → n < m → ltb n m ≡ true
below n m h = grind arith

pub cut : {A : Type 0} (b : Bool) (x : A) (d e : Malformed) → cond b (Err d) (Ok x) ≡ Err e → (b ≡ true) × (d ≡ e)
cut true x d e h = (refl, cc)
cut false x d e h = absurd cc

pub whole : {A : Type 0} (b : Bool) (x y : A) (d : Malformed) → cond b (Err d) (Ok x) ≡ Ok y → (b ≡ false) × (x ≡ y)
whole true x y d h = absurd cc
whole false x y d h = (refl, cc)
