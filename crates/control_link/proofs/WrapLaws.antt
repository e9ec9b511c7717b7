-- One wrap more that is judged.
use Rattle.std.proofs.Common.{◌≡◌, List, [], ◌∷◌, ◌++◌, ap, refl}
use Rattle.vpn_base.specs.declared.names.Freshness.{Freshness}
use Rattle.packet_ids.specs.LongFreshness.{LongHistory, long_freshness}
use Rattle.packet_ids.specs.Runs.{WrapId, long_after, long_after_all, long_answers_to}

pub answers_push : (wraps : List WrapId) (e : WrapId) (h : LongHistory) → long_answers_to (wraps ++ e ∷ []) h ≡ long_answers_to wraps h ++ long_freshness (long_after_all wraps h) e.0 e.1 e.2 ∷ []
answers_push [] e h = refl
answers_push (x ∷ wraps) e h = ap (λ (t : List Freshness). long_freshness h x.0 x.1 x.2 ∷ t) (answers_push wraps e (long_after h x))

pub after_push : (wraps : List WrapId) (e : WrapId) (h : LongHistory) → long_after_all (wraps ++ e ∷ []) h ≡ long_after (long_after_all wraps h) e
after_push [] e h = refl
after_push (x ∷ wraps) e h = after_push wraps e (long_after h x)
