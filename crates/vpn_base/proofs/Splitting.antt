-- Lists at the first place that passes a test.
use Rattle.std.proofs.Common.{◌≡◌, ℕ, ◌+◌, ◌-◌, ◌<◌, ◌≤◌, Bool, true, false, List, [], ◌∷◌, length, get_or, take, drop, refl, arith, subst, length-drop}
use Rattle.std.specs.Prelude.{Option, Some, None, position, cond, nat_lt}
use Rattle.std.specs.List.{slice_split, position_or_len}
use Rattle.std.proofs.lemmas.List.{take_all}
use Rattle.std.proofs.lemmas.List.Elements.{All-from_get_or}
use Rattle.std.proofs.lemmas.List.Sums.{fails_before_first, position_or_len_is}
use Rattle.memchr.specs.Find.{IsFirstByte}
use Rattle.std.proofs.lemmas.List.Splits.{slice_split_none, slice_split_first, length-slice_split}
use Rattle.vpn_base.specs.Address.{of_parts}

none_when : (b : Bool) (i n : ℕ) → (nat_lt i n ≡ b) → cond b (Some i) None ≡ None → n ≤ i
none_when true i n is none = cc
none_when false i n is none = grind arith

some_when : (b : Bool) (i n k : ℕ) → (nat_lt i n ≡ b) → cond b (Some i) None ≡ Some k → (i ≡ k) × (i < n)
some_when true i n k is some = (cc, grind arith)
some_when false i n k is some = cc

pub split_none : (p : ℕ → Bool) (xs : List ℕ) → position p xs ≡ None → slice_split p xs ≡ xs ∷ []
split_none p xs none =
    let past = none_when (nat_lt (position_or_len p xs) (length xs)) (position_or_len p xs) (length xs) refl none in
    slice_split_none p xs (All-from_get_or (λ x. p x ≡ false) xs 0 (λ k before. fails_before_first p xs k 0 (omega arith)))

pub split_some : (p : ℕ → Bool) (xs : List ℕ) (i : ℕ) → position p xs ≡ Some i →
    slice_split p xs ≡ take i xs ∷ slice_split p (take (length xs - (i + 1)) (drop (i + 1) xs))
split_some p xs i some =
    let found = some_when (nat_lt (position_or_len p xs) (length xs)) (position_or_len p xs) (length xs) i refl some in
    let place : position_or_len p xs ≡ i = found.0 in
    let whole : take (length xs - (i + 1)) (drop (i + 1) xs) ≡ drop (i + 1) xs =
    take_all (length xs - (i + 1)) (drop (i + 1) xs) (omega (arith, length-drop (i + 1) xs)) in
    rw whole (subst (λ (k : ℕ). slice_split p xs ≡ take k xs ∷ slice_split p (drop (k + 1) xs)) place (slice_split_first p xs 0 found.1))

-- five parts or more are no address
not_four : (a b c d : List ℕ) (rest : List (List ℕ)) → 0 < length rest → of_parts (a ∷ b ∷ c ∷ d ∷ rest) ≡ None
not_four a b c d [] some = absurd (omega arith)
not_four a b c d (e ∷ rest) some = refl

pub five_parts : (p : ℕ → Bool) (text a after_a b after_b c after_c d after_d : List ℕ) →
    slice_split p text ≡ a ∷ slice_split p after_a → slice_split p after_a ≡ b ∷ slice_split p after_b →
    slice_split p after_b ≡ c ∷ slice_split p after_c → slice_split p after_c ≡ d ∷ slice_split p after_d →
    of_parts (slice_split p text) ≡ None
five_parts p text a after_a b after_b c after_c d after_d one two three four =
    rw (one, two, three, four) (not_four a b c d (slice_split p after_d) (omega (arith, length-slice_split p after_d)))

not_passed : (b : Bool) → (b ≡ true → ⊥) → b ≡ false
not_passed true never = absurd (never refl)
not_passed false never = refl

found_at : (p : ℕ → Bool) (xs : List ℕ) (i : ℕ) → position_or_len p xs ≡ i → i < length xs → position p xs ≡ Some i
found_at p xs i is within = rw is (grind arith)

found_nowhere : (p : ℕ → Bool) (xs : List ℕ) → position_or_len p xs ≡ length xs → position p xs ≡ None
found_nowhere p xs is = rw is (grind arith)

-- the first place at which a byte passes a test is its position
pub position_first : (p : ℕ → Bool) (xs : List ℕ) (r : Option ℕ) → IsFirstByte p xs r → position p xs ≡ r
position_first p xs None nowhere =
    found_nowhere p xs (position_or_len_is p xs (length xs) 0 (omega arith) (λ k before. not_passed (p (get_or xs k 0)) (nowhere k (omega arith) before)) (λ past. absurd (omega arith)))
position_first p xs (Some i) first =
    found_at p xs i (position_or_len_is p xs i 0 (omega (arith, first.0.high)) (λ k before. not_passed (p (get_or xs k 0)) (first.0.before k (omega arith) before)) (λ _. first.1)) first.0.high
