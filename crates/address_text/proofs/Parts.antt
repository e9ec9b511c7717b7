-- Words between colons.
use Rattle.std.proofs.Common.{◌≡◌, ℕ, ◌<◌, Bool, List, [], ◌∷◌, length, refl, arith}
use Rattle.std.specs.Prelude.{None}
use Rattle.std.specs.List.{slice_split}
use Rattle.std.proofs.lemmas.List.Splits.{length-slice_split}
use Rattle.address_text.specs.AddressText.{addr_of_parts}

not_two : (a b : List ℕ) (rest : List (List ℕ)) → 0 < length rest → addr_of_parts (a ∷ b ∷ rest) ≡ None
not_two a b [] some = absurd (omega arith)
not_two a b (c ∷ rest) some = refl

-- three parts or more are no address with a port
pub three_parts : (p : ℕ → Bool) (text a after_a b after_b : List ℕ) → slice_split p text ≡ a ∷ slice_split p after_a
    → slice_split p after_a ≡ b ∷ slice_split p after_b → addr_of_parts (slice_split p text) ≡ None
three_parts p text a after_a b after_b one two = rw (one, two) (not_two a b (slice_split p after_b) (omega (arith, length-slice_split p after_b)))
