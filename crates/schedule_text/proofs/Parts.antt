-- How many parts a text has around a byte.
use Rattle.std.proofs.Common.{◌≡◌, ℕ, ◌<◌, Bool, false, List, [], ◌∷◌, length, refl, arith}
use Rattle.std.specs.Prelude.{None}
use Rattle.std.specs.List.{slice_split}
use Rattle.std.proofs.lemmas.List.Splits.{length-slice_split}
use Rattle.vpn_base.specs.WordCount.{are_none, one_of, two_of}

some_parts : (p : ℕ → Bool) (text : List ℕ) → 0 < length (slice_split p text)
some_parts p text = omega (arith, length-slice_split p text)

not_none : (parts : List (List ℕ)) → 0 < length parts → are_none parts ≡ false
not_none [] some = absurd (omega arith)
not_none (a ∷ parts) some = refl

not_one : (a : List ℕ) (parts : List (List ℕ)) → 0 < length parts → one_of (a ∷ parts) ≡ None
not_one a [] some = absurd (omega arith)
not_one a (b ∷ parts) some = refl

not_two : (a b : List ℕ) (parts : List (List ℕ)) → 0 < length parts → two_of (a ∷ b ∷ parts) ≡ None
not_two a b [] some = absurd (omega arith)
not_two a b (c ∷ parts) some = refl

-- a text has a part
pub has_parts : (p : ℕ → Bool) (text : List ℕ) → are_none (slice_split p text) ≡ false
has_parts p text = not_none (slice_split p text) (some_parts p text)

-- a text with the byte in it has two at least
pub more_than_one : (p : ℕ → Bool) (text a after_a : List ℕ) → slice_split p text ≡ a ∷ slice_split p after_a → one_of (slice_split p text) ≡ None
more_than_one p text a after_a first = rw first (not_one a (slice_split p after_a) (some_parts p after_a))

-- a text with the byte in it twice has three at least
pub more_than_two : (p : ℕ → Bool) (text a after_a b after_b : List ℕ) → slice_split p text ≡ a ∷ slice_split p after_a →
    slice_split p after_a ≡ b ∷ slice_split p after_b → two_of (slice_split p text) ≡ None
more_than_two p text a after_a b after_b first second =
    rw (first, second) (not_two a b (slice_split p after_b) (some_parts p after_b))
