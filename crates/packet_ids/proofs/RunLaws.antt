-- A run with one arrival more.
use Rattle.std.proofs.Common.{◌≡◌, List, [], ◌∷◌, ◌++◌, refl, ap}
use Rattle.vpn_base.specs.declared.names.Freshness.{Freshness}
use Rattle.packet_ids.specs.Freshness.{Accepted, History, freshness}
use Rattle.packet_ids.specs.LongFreshness.{LongHistory, long_freshness}
use Rattle.packet_ids.specs.Runs.{WrapId, after, answers_to, after_all, long_after, long_answers_to, long_after_all}

pub answers_to-push : (es : List Accepted) (e : Accepted) (h : History) → answers_to (es ++ e ∷ []) h ≡ answers_to es h ++ freshness (after_all es h) e.0 e.1 ∷ []
answers_to-push [] e h = refl
answers_to-push (x ∷ es) e h = ap (λ (t : List Freshness). freshness h x.0 x.1 ∷ t) (answers_to-push es e (after h x))

pub after_all-push : (es : List Accepted) (e : Accepted) (h : History) → after_all (es ++ e ∷ []) h ≡ after (after_all es h) e
after_all-push [] e h = refl
after_all-push (x ∷ es) e h = after_all-push es e (after h x)

pub long_answers_to-push : (es : List WrapId) (e : WrapId) (h : LongHistory) → long_answers_to (es ++ e ∷ []) h ≡ long_answers_to es h ++ long_freshness (long_after_all es h) e.0 e.1 e.2 ∷ []
long_answers_to-push [] e h = refl
long_answers_to-push (x ∷ es) e h = ap (λ (t : List Freshness). long_freshness h x.0 x.1 x.2 ∷ t) (long_answers_to-push es e (long_after h x))

pub long_after_all-push : (es : List WrapId) (e : WrapId) (h : LongHistory) → long_after_all (es ++ e ∷ []) h ≡ long_after (long_after_all es h) e
long_after_all-push [] e h = refl
long_after_all-push (x ∷ es) e h = long_after_all-push es e (long_after h x)
