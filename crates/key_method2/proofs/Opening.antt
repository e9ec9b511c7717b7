-- The first byte that differs from what is wanted.
use Rattle.std.proofs.Common.{◌≡◌, ℕ, zero, suc, ◌+◌, ◌<◌, List, [], ◌∷◌, ◌++◌, length, take, drop, get_or, Option, Some, None, refl, sym, ap, ◌∙◌, subst, add-one, inl, inr, arith}
use Rattle.std.proofs.Math.Seq.{drop-nil}
use Rattle.std.proofs.lemmas.Bool.{eq-eqb, ne_eqb}
use Rattle.std.proofs.lemmas.Bool.Decides.{eqb_tells}
use Rattle.std.proofs.lemmas.List.{append-nil}
use Rattle.key_method2.specs.Reading.{one_later, first_difference}

-- all bytes before this one are as wanted, and this one is not
pub differs_at : (wanted bytes : List ℕ) (place : ℕ) → place < length wanted → place < length bytes
    → ((k : ℕ) → k < place → get_or bytes k 0 ≡ get_or wanted k 0) → (get_or bytes place 0 ≡ get_or wanted place 0 → ⊥) → first_difference wanted bytes ≡ Some place
unfolding first_difference
differs_at [] bytes place in_wanted in_bytes before here = absurd (omega arith)
differs_at (want ∷ wanted) [] place in_wanted in_bytes before here = absurd (omega arith)
differs_at (want ∷ wanted) (byte ∷ bytes) zero in_wanted in_bytes before here = rw (ne_eqb byte want here) refl
differs_at (want ∷ wanted) (byte ∷ bytes) (suc place) in_wanted in_bytes before here =
    let first : byte ≡ want = before 0 (omega arith) in
    let later = differs_at wanted bytes place (omega arith) (omega arith) (λ k lt. before (suc k) (omega arith)) here in
    rw (eq-eqb byte want first, later, add-one) refl

-- all bytes that are there are as wanted
pub differs_nowhere : (wanted bytes : List ℕ) → ((k : ℕ) → k < length wanted → k < length bytes → get_or bytes k 0 ≡ get_or wanted k 0) → first_difference wanted bytes ≡ None
unfolding first_difference
differs_nowhere [] bytes same = refl
differs_nowhere (want ∷ wanted) [] same = refl
differs_nowhere (want ∷ wanted) (byte ∷ bytes) same =
    let first : byte ≡ want = same 0 (omega arith) (omega arith) in
    let later = differs_nowhere wanted bytes (λ k a b. same (suc k) (omega arith) (omega arith)) in
    rw (eq-eqb byte want first, later) refl

-- what is wanted has no byte that differs
pub differs_again : (wanted rest : List ℕ) → first_difference wanted (wanted ++ rest) ≡ None
unfolding first_difference
differs_again [] rest = refl
differs_again (want ∷ wanted) rest = rw (eq-eqb want want refl, differs_again wanted rest) refl

later_none : (o : Option ℕ) → one_later o ≡ None → o ≡ None
later_none None e = refl
later_none (Some place) e = absurd cc

later_some : (o : Option ℕ) (place : ℕ) → one_later o ≡ Some place → (before : ℕ) × (o ≡ Some before) × (place ≡ before + 1)
later_some None place e = absurd cc
later_some (Some before) place e = (before, refl, cc)

-- bytes with no difference and what they lack are what is wanted and what follows it
pub front_is : (wanted bytes : List ℕ) → first_difference wanted bytes ≡ None → bytes ++ drop (length bytes) wanted ≡ wanted ++ drop (length wanted) bytes
unfolding first_difference
front_is [] bytes same = ap (λ (rest : List ℕ). bytes ++ rest) (drop-nil (length bytes)) ∙ append-nil bytes
front_is (want ∷ wanted) [] same = sym (append-nil (want ∷ wanted))
front_is (want ∷ wanted) (byte ∷ bytes) same =
    elim (eqb_tells byte want) [
      | inl equal ↦
          let later : one_later (first_difference wanted bytes) ≡ None = rw equal.0 at same in
          let behind = front_is wanted bytes (later_none (first_difference wanted bytes) later) in
          rw (equal.1, behind) refl
      | inr other ↦ let here : (let some : Option ℕ = Some 0 in some) ≡ None = rw other.0 at same in absurd cc
    ]

-- the first byte that differs does so whatever follows it, and what is wanted begins with the bytes before it
pub record Differs (wanted bytes : List ℕ) (place : ℕ) : Type 0 where
  pub in_wanted : place < length wanted
  pub in_bytes : place < length bytes
  pub stays : (more : List ℕ) → first_difference wanted (take (place + 1) bytes ++ more) ≡ Some place
  pub before : take place bytes ++ drop place wanted ≡ wanted

pub first_differs : (wanted bytes : List ℕ) (place : ℕ) → first_difference wanted bytes ≡ Some place → Differs wanted bytes place
unfolding first_difference
first_differs [] bytes place other = absurd cc
first_differs (want ∷ wanted) [] place other = absurd cc
first_differs (want ∷ wanted) (byte ∷ bytes) place other =
    elim (eqb_tells byte want) [
      | inl equal ↦
          let later : one_later (first_difference wanted bytes) ≡ Some place = rw equal.0 at other in
          let found = later_some (first_difference wanted bytes) place later in
          let behind = first_differs wanted bytes found.0 found.1 in
          let inside : found.0 < length wanted = behind.in_wanted in
          let within : found.0 < length bytes = behind.in_bytes in
          let next : place + 1 ≡ suc (found.0 + 1) = omega (arith, found.2) in
          let is_next : place ≡ suc found.0 = omega (arith, found.2) in
          record {
            in_wanted = omega (arith, found.2);
            in_bytes = omega (arith, found.2);
            stays = λ more. rw (next, equal.0, behind.stays more) (ap (λ (k : ℕ). Some k) (sym found.2));
            before = rw (is_next, equal.1, behind.before) refl;
          }
      | inr different ↦
          let here : (let some : Option ℕ = Some 0 in some) ≡ Some place = rw different.0 at other in
          let is_first : 0 ≡ place = cc in
          subst (Differs (want ∷ wanted) (byte ∷ bytes)) is_first (record {
            in_wanted = omega arith;
            in_bytes = omega arith;
            stays = λ more. rw different.0 refl;
            before = refl;
          })
    ]
