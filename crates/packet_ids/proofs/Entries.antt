-- Lists of accepted ids, by their entries.
use Rattle.std.proofs.Common.{◌≡◌, ◌≤◌, max, Bool, true, false, List, [], ◌∷◌, ◌++◌, refl, sym, ap, ◌∙◌, arith, inl, inr}
use Rattle.std.specs.Prelude.{◌⊎◌, ◌||◌}
use Rattle.std.specs.List.{list_any}
use Rattle.packet_ids.specs.Freshness.{Accepted, greatest_id}
use Rattle.packet_ids.specs.Window.{HasEntry}

-- the same answer from either to the other
pub same_test : (a b : Bool) → (a ≡ true → b ≡ true) → (b ≡ true → a ≡ true) → a ≡ b
same_test true b there back = sym (there refl)
same_test false true there back = back refl
same_test false false there back = refl

pub or_true : (a b : Bool) (P : Type 0) → (a || b) ≡ true → (a ≡ true → P) → (b ≡ true → P) → P
or_true true b P h left right = left refl
or_true false b P h left right = right h

pub or_right : (a b : Bool) → b ≡ true → (a || b) ≡ true
or_right true b h = refl
or_right false b h = h

pub or_left : (a b : Bool) → a ≡ true → (a || b) ≡ true
or_left true b h = refl
or_left false b h = cc

-- an entry that passes a test
pub record Passes (p : Accepted → Bool) (es : List Accepted) : Type 0 where
  pub entry : Accepted
  pub there : HasEntry es entry
  pub passes : p entry ≡ true

pub any_passes : (p : Accepted → Bool) (es : List Accepted) → list_any p es ≡ true → Passes p es
any_passes p [] h = absurd cc
any_passes p (e ∷ es) h =
    or_true (p e) (list_any p es) (Passes p (e ∷ es)) h (λ passes. record { entry = e; there = inl refl; passes = passes })
    (λ rest. let r = any_passes p es rest in record { entry = r.entry; there = inr r.there; passes = r.passes })

pub passes_any : (p : Accepted → Bool) (es : List Accepted) (e : Accepted) → HasEntry es e → p e ≡ true → list_any p es ≡ true
passes_any p [] e there passes = absurd there
passes_any p (x ∷ es) e (inl same) passes = or_left (p x) (list_any p es) (ap p same ∙ passes)
passes_any p (x ∷ es) e (inr there) passes = or_right (p x) (list_any p es) (passes_any p es e there passes)

pub at_most_greatest : (es : List Accepted) (e : Accepted) → HasEntry es e → e.0 ≤ greatest_id es
at_most_greatest [] e there = absurd there
at_most_greatest (x ∷ es) e (inl same) = let k : x.0 ≡ e.0 = ap (λ (a : Accepted). a.0) same in omega arith
at_most_greatest (x ∷ es) e (inr there) = let k = at_most_greatest es e there in omega arith

pub greatest-push : (es : List Accepted) (e : Accepted) → greatest_id (es ++ e ∷ []) ≡ max (greatest_id es) e.0
greatest-push [] e = omega arith
greatest-push (x ∷ es) e = let k = greatest-push es e in omega arith

pub has_push : (es : List Accepted) (y e : Accepted) → HasEntry es e → HasEntry (es ++ y ∷ []) e
has_push [] y e there = absurd there
has_push (x ∷ es) y e (inl same) = inl same
has_push (x ∷ es) y e (inr there) = inr (has_push es y e there)

pub has_last : (es : List Accepted) (y e : Accepted) → y ≡ e → HasEntry (es ++ y ∷ []) e
has_last [] y e same = inl same
has_last (x ∷ es) y e same = inr (has_last es y e same)

pub before_push : (es : List Accepted) (y e : Accepted) → HasEntry (es ++ y ∷ []) e → HasEntry es e ⊎ (y ≡ e)
before_push [] y e (inl same) = inr same
before_push [] y e (inr there) = absurd there
before_push (x ∷ es) y e (inl same) = inl (inl same)
before_push (x ∷ es) y e (inr there) = elim (before_push es y e there) [ inl k ↦ inl (inr k) | inr k ↦ inr k ]
