-- The first line of a text.
use Rattle.std.proofs.Common.{◌≡◌, ℕ, suc, ◌+◌, ◌<◌, ◌≤◌, ◌==◌, Bool, true, false, not, cond, List, [], ◌∷◌, length, take, drop, Some, None, refl, ap, sym, ◌∙◌, arith, length-take, length-drop}
use Rattle.std.proofs.lemmas.List.Splits.{slice_split_first, length-slice_split}
use borrow.Author.Tests.{ltb-true, ltb-false, ne_eqb}
use Rattle.std.specs.List.{position, position_or_len, slice_split, onto_first}
use Rattle.std.specs.Str.Lines.{strip_carriage_return}
use Rattle.vpn_base.specs.Lines.{Line, lines_of, lines_of_parts, BeginsWith}

split_step : (x : ℕ) (xs : List ℕ) (b : Bool) → suc (length xs) ≤ cond (not b) (1 + position_or_len (λ c. c == 10) xs) 0
    → (length xs ≤ position_or_len (λ c. c == 10) xs → slice_split (λ c. c == 10) xs ≡ xs ∷ [])
    → cond b ([] ∷ slice_split (λ c. c == 10) xs) (onto_first x (slice_split (λ c. c == 10) xs)) ≡ (x ∷ xs) ∷ []
split_step x xs true long rest = absurd (omega arith)
split_step x xs false long rest = ap (onto_first x) (rest (omega arith))

-- a text with no line feed is the one part
split_none : (xs : List ℕ) → length xs ≤ position_or_len (λ c. c == 10) xs → slice_split (λ c. c == 10) xs ≡ xs ∷ []
split_none [] long = refl
split_none (x ∷ xs) long = split_step x xs (x == 10) long (split_none xs)

lines_more : (x : List ℕ) (parts : List (List ℕ)) → 0 < length parts → lines_of_parts (x ∷ parts) ≡ record { body = x; ended = true } ∷ lines_of_parts parts
lines_more x [] some = absurd (omega arith)
lines_more x (y ∷ parts) some = refl

lines_one : (text : List ℕ) → 0 < length text → lines_of_parts (text ∷ []) ≡ record { body = text; ended = false } ∷ []
lines_one text some =
    let one : List Line = record { body = text; ended = false } ∷ [] in
    ap (λ (b : Bool). cond b [] one) (ne_eqb (length text) 0 (λ none. omega arith))

found : (b : Bool) (m n : ℕ) → cond b (Some m) None ≡ Some n → (b ≡ true) × (n ≡ m)
found true m n e = (refl, cc)
found false m n e = cc

missing : (b : Bool) (m : ℕ) → cond b (Some m) None ≡ None → b ≡ false
missing true m e = cc
missing false m e = refl

more_lines : (text : List ℕ) (n : ℕ) → position (λ c. c == 10) text ≡ Some n
    → (lines_of text ≡ record { body = take n text; ended = true } ∷ lines_of (drop (n + 1) text)) × (n < length text)
unfolding lines_of
more_lines text n at =
    let there = found _ _ n at in
    let place : n ≡ position_or_len (λ c. c == 10) text = there.1 in
    let ends : position_or_len (λ c. c == 10) text < length text = ltb-true _ _ there.0 in
    let rest = drop (position_or_len (λ c. c == 10) text + 1) text in
    let within : n < length text = omega arith in
    let line : ℕ → Line = λ m. record { body = take m text; ended = true } in (
      ap lines_of_parts (slice_split_first (λ c. c == 10) text 0 ends)
          ∙ lines_more _ (slice_split (λ c. c == 10) rest) (omega (arith, length-slice_split (λ c. c == 10) rest))
          ∙ ap (λ (m : ℕ). line m ∷ lines_of (drop (m + 1) text)) (sym place),
      within,
    )

-- a line that a line feed ends
pub first_of_more : (text line rest : List ℕ) (n : ℕ) → position (λ c. c == 10) text ≡ Some n
    → line ≡ strip_carriage_return (take n text) → rest ≡ drop (n + 1) text → BeginsWith text line rest
first_of_more text line rest n at is behind =
    let more = more_lines text n at in
    let within : n < length text = more.1 in
    record {
      first = record { body = take n text; ended = true };
      begins = more.0 ∙ ap (λ (l : List ℕ). record { body = take n text; ended = true } ∷ lines_of l) (sym behind);
      shows = sym is;
      takes = rw behind (omega (arith, length-take n text, length-drop (n + 1) text));
    }

-- a line that nothing ends
pub first_of_one : (text : List ℕ) → position (λ c. c == 10) text ≡ None → (length text ≡ 0 → ⊥) → BeginsWith text text []
unfolding lines_of
first_of_one text none some =
    let past : length text ≤ position_or_len (λ c. c == 10) text = ltb-false _ _ (missing _ _ none) in
    record {
      first = record { body = text; ended = false };
      begins = ap lines_of_parts (split_none text past) ∙ lines_one text (omega arith);
      shows = refl;
      takes = omega arith;
    }
