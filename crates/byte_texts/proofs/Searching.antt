-- The texts of a length, and what a search among them finds.
use Rattle.std.proofs.Common.{◌≡◌, ℕ, zero, suc, ◌<◌, inl, inr, Bool, true, List, [], ◌∷◌, length, map, Option, Some, None, refl, ap, subst, arith}
use Rattle.std.specs.Prelude.{Contains}
use Rattle.byte_texts.specs.Texts.{IsBytes, bytes, text_with, texts_of_length}
use Rattle.byte_texts.proofs.Parts.{IsBytes-cons}
use Rattle.byte_texts.proofs.Elements.{first_or_later, found_passes, in_joined, in_mapped, in_none, in_range, is_first, none_passes, of_joined, of_mapped, of_range}

in_bytes : (b : ℕ) → b < 256 → Contains bytes b
unfolding bytes
in_bytes b small = in_range 0 256 b (omega arith) (omega arith)

of_bytes : (b : ℕ) → Contains bytes b → b < 256
unfolding bytes
of_bytes b h = let below = of_range 0 256 b h in omega arith

-- a list of so many bytes is one of the texts
pub is_text : (n : ℕ) (text : List ℕ) → length text ≡ n → IsBytes text → Contains (texts_of_length n) text
unfolding texts_of_length
is_text zero [] size small = is_first [] [] [] refl
is_text zero (b ∷ text) size small = absurd (omega arith)
is_text (suc n) [] size small = absurd (omega arith)
is_text (suc n) (b ∷ text) size small =
    in_joined (λ c. map (λ t. c ∷ t) (texts_of_length n)) bytes b (b ∷ text) (in_bytes b (small 0))
    (in_mapped (λ t. b ∷ t) (texts_of_length n) text (is_text n text (omega arith) (λ i. small (suc i))))

-- nothing else is one
pub only_text : (n : ℕ) (text : List ℕ) → Contains (texts_of_length n) text → (length text ≡ n) × IsBytes text
unfolding texts_of_length
only_text zero text h =
    elim (first_or_later [] [] text h) [
      | inl same ↦ subst (λ (t : List ℕ). (length t ≡ 0) × IsBytes t) same (refl, λ i. omega arith)
      | inr later ↦ absurd (in_none text later)
    ]
only_text (suc n) text h =
    let by_byte = of_joined (λ c. map (λ t. c ∷ t) (texts_of_length n)) bytes text h in
    let b = by_byte.0 in
    let behind = of_mapped (λ t. b ∷ t) (texts_of_length n) text by_byte.2 in
    subst (λ (t : List ℕ). (length t ≡ suc n) × IsBytes t) behind.2
    (let rest = only_text n behind.0 behind.1 in (ap suc rest.0, IsBytes-cons b behind.0 (of_bytes b by_byte.1) rest.1))

-- what is found passes, and is a text of that length
pub found_text : (passes : List ℕ → Bool) (n : ℕ) (text : List ℕ) → text_with passes n ≡ Some text → (passes text ≡ true) × (length text ≡ n) × IsBytes text
unfolding text_with
found_text passes n text found =
    let good = found_passes passes (texts_of_length n) text found in
    let only = only_text n text good.1 in (good.0, only.0, only.1)

-- where nothing is found no text passes
pub none_found : (passes : List ℕ → Bool) (n : ℕ) → text_with passes n ≡ None → (text : List ℕ) → length text ≡ n → IsBytes text → passes text ≡ true → ⊥
unfolding text_with
none_found passes n none text size small good =
    none_passes passes (texts_of_length n) none text (is_text n text size small) good

-- and the other way
decided : (r : Option (List ℕ)) → ((text : List ℕ) → r ≡ Some text → ⊥) → r ≡ None
decided None never = refl
decided (Some text) never = absurd (never text refl)

pub nothing_passes : (passes : List ℕ → Bool) (n : ℕ) → ((text : List ℕ) → length text ≡ n → IsBytes text → passes text ≡ true → ⊥) → text_with passes n ≡ None
nothing_passes passes n never =
    decided (text_with passes n) (λ text found. let good = found_text passes n text found in never text good.1 good.2 good.0)

-- where one text alone passes it is found
one_decided : (r : Option (List ℕ)) (text : List ℕ) → (r ≡ None → ⊥) → ((other : List ℕ) → r ≡ Some other → other ≡ text) → r ≡ Some text
one_decided None text some only = absurd (some refl)
one_decided (Some other) text some only = ap (λ (t : List ℕ). Some t) (only other refl)

pub one_found : (passes : List ℕ → Bool) (n : ℕ) (text : List ℕ) → length text ≡ n → IsBytes text → passes text ≡ true →
    ((other : List ℕ) → passes other ≡ true → other ≡ text) → text_with passes n ≡ Some text
one_found passes n text size small good only =
    one_decided (text_with passes n) text (λ none. none_found passes n none text size small good)
    (λ other found. only other (found_text passes n other found).0)
