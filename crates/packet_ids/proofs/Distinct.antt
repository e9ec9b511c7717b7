-- Lists in which no id comes twice.
use Rattle.std.proofs.Common.{◌≡◌, ◌≢◌, ℕ, true, false, eqb, List, [], ◌∷◌, ◌++◌, refl, sym, ap, ◌∙◌, arith, inl, inr}
use Rattle.packet_ids.specs.Freshness.{Accepted, was_accepted}
use Rattle.packet_ids.specs.Window.{HasEntry}
use Rattle.packet_ids.specs.Runs.{AreDistinct}
use Rattle.packet_ids.proofs.Entries.{any_passes, passes_any, same_test, before_push}

-- an id that no entry has
pub absent_from : (es : List Accepted) (id : ℕ) → ((e : Accepted) → HasEntry es e → e.0 ≢ id) → was_accepted es id ≡ false
absent_from es id none =
    same_test (was_accepted es id) false (λ found. let p = any_passes (λ e. eqb e.0 id) es found in absurd (none p.entry p.there (grind (arith, p.passes)))) (λ never. absurd cc)

pub absent_at : (es : List Accepted) (id : ℕ) (e : Accepted) → was_accepted es id ≡ false → HasEntry es e → e.0 ≢ id
absent_at es id e none there = λ same.
    let passes : eqb e.0 id ≡ true = grind arith in
    let found = passes_any (λ x. eqb x.0 id) es e there passes in cc

pub push_distinct : (es : List Accepted) (y : Accepted) → AreDistinct es → was_accepted es y.0 ≡ false → AreDistinct (es ++ y ∷ [])
push_distinct [] y distinct none = (refl, tt)
push_distinct (x ∷ es) y distinct none = (
  absent_from (es ++ y ∷ []) x.0 (λ e there. elim (before_push es y e there) [
    | inl k ↦ absent_at es x.0 e distinct.0 k
    | inr same ↦ λ is. absent_at (x ∷ es) y.0 x none (inl refl) (sym is ∙ sym (ap (λ (a : Accepted). a.0) same))
  ]),
  push_distinct es y distinct.1 (absent_from es y.0 (λ e there. absent_at (x ∷ es) y.0 e none (inr there))),
)
