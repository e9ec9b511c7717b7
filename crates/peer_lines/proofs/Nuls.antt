-- The first NUL of a text.
use Rattle.std.proofs.Common.{◌≡◌, ◌+◌, ◌||◌, cond, ℕ, Bool, true, false, List, [], ◌∷◌, take, Option, Some, None, position, refl, sym, ap, ◌∙◌, arith}
use Rattle.std.specs.List.{before_first, list_any, position_from, position_or_len}
use Rattle.std.proofs.lemmas.List.Quantifiers.{position-Some}
use Rattle.std.proofs.lemmas.List.Folds.{list_any_at}
use Rattle.std.proofs.lemmas.List.Sums.{position_or_len_is}
use Rattle.std.proofs.lemmas.Iterator.Adapters.{position_from-zero}
use Rattle.std.proofs.lemmas.Option.{none-some}
use Rattle.peer_table.specs.Exchange.{is_nul}

if_none : (b : Bool) (i : ℕ) (rest : Option ℕ) (any : Bool) → cond b (Some i) rest ≡ None → (rest ≡ None → any ≡ false) → (b || any) ≡ false
if_none true i rest any is later = absurd (none-some i (sym is))
if_none false i rest any is later = later is

none_from : (k : ℕ) (xs : List ℕ) → position_from is_nul k xs ≡ None → list_any is_nul xs ≡ false
none_from k [] is = refl
none_from k (x ∷ xs) is = if_none (is_nul x) k (position_from is_nul (k + 1) xs) (list_any is_nul xs) is (none_from (k + 1) xs)

-- none stands there
pub no_nul : (xs : List ℕ) → position is_nul xs ≡ None → list_any is_nul xs ≡ false
no_nul xs is = none_from 0 xs (sym (position_from-zero is_nul xs) ∙ is)

-- one does
pub a_nul : (xs : List ℕ) (i : ℕ) → position is_nul xs ≡ Some i → list_any is_nul xs ≡ true
a_nul xs i is = let first = position-Some is_nul xs i 0 is in list_any_at is_nul xs i 0 first.0 first.1

-- and what stands before the first
pub before_nul : (xs : List ℕ) (i : ℕ) → position is_nul xs ≡ Some i → before_first is_nul xs ≡ take i xs
before_nul xs i is =
    let first = position-Some is_nul xs i 0 is in
    let at : position_or_len is_nul xs ≡ i = position_or_len_is is_nul xs i 0 (omega (arith, first.0)) first.2 (λ _. first.1) in
    ap (λ (n : ℕ). take n xs) at
