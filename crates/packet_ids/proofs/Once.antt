-- No id is accepted twice.
use Rattle.std.proofs.Common.{◌≡◌, ℕ, Bool, true, false, cond, eqb, ltb, leb, ◌-◌, List, [], ◌∷◌, ◌++◌, refl, ap, subst, sym, arith}
use Rattle.vpn_base.specs.declared.names.Moment.{Moment}
use Rattle.vpn_base.specs.declared.names.Freshness.{Freshness}
use Rattle.vpn_base.specs.declared.names.Freshness.TheVariants.{Fresh, Zero, Old, Seen, Late}
use Rattle.packet_ids.specs.Freshness.{Accepted, History, greatest_id, is_overtaken, was_accepted, freshness}
use Rattle.packet_ids.specs.LongFreshness.{LongAccepted, LongHistory, at_time, is_none_of, latest, long_freshness, of_time}
use Rattle.packet_ids.specs.Runs.{AreDistinct, WrapId, after, after_all, judged_so, long_after, long_after_all, long_judged_so}
use Rattle.packet_ids.proofs.LongStanding.{of_time-push, of_time_above}
use Rattle.packet_ids.proofs.Distinct.{push_distinct}
use Rattle.packet_ids.proofs.Standing.{fresh_when}

-- a fresh id was not accepted
unseen_if_fresh : (h : History) (id : ℕ) (now : Moment) → freshness h id now ≡ Fresh → was_accepted h.accepted id ≡ false
unfolding freshness
unseen_if_fresh h id now fresh =
    (fresh_when (eqb id 0) (leb h.width (greatest_id h.accepted - id)) (was_accepted h.accepted id) (is_overtaken h.seconds h.accepted id now) fresh).2

distinct_so : (f : Freshness) (h : History) (id : ℕ) (now : Moment) → (f ≡ Fresh → was_accepted h.accepted id ≡ false) →
    AreDistinct h.accepted → AreDistinct (judged_so f h id now).accepted
distinct_so Fresh h id now unseen distinct = push_distinct h.accepted (id, now) distinct (unseen refl)
distinct_so Zero h id now unseen distinct = distinct
distinct_so Old h id now unseen distinct = distinct
distinct_so Seen h id now unseen distinct = distinct
distinct_so Late h id now unseen distinct = distinct

-- a run keeps the accepted ids distinct
pub distinct_after_all : (es : List Accepted) (h : History) → AreDistinct h.accepted → AreDistinct (after_all es h).accepted
distinct_after_all [] h distinct = distinct
distinct_after_all (e ∷ es) h distinct =
    distinct_after_all es (after h e) (distinct_so (freshness h e.0 e.1) h e.0 e.1 (unseen_if_fresh h e.0 e.1) distinct)

-- ---- pairs of time and id

-- of each time, the accepted ids are distinct
abbrev DistinctAtEach : List LongAccepted → Type 0
DistinctAtEach accepted = (time : ℕ) → AreDistinct (of_time time accepted)

-- a fresh pair is the first, or has a later time, or is fresh among the ids of its time
fresh_cases : (zero none earlier later : Bool) (answer : Freshness) (P : Type 0) → (none ≡ true → P) → (later ≡ true → P) → (answer ≡ Fresh → P) →
    cond zero Zero (cond none Fresh (cond earlier Old (cond later Fresh answer))) ≡ Fresh → P
fresh_cases true none earlier later answer P first above within fresh = absurd cc
fresh_cases false true earlier later answer P first above within fresh = first refl
fresh_cases false false true later answer P first above within fresh = absurd cc
fresh_cases false false false true answer P first above within fresh = above refl
fresh_cases false false false false answer P first above within fresh = within fresh

none_of : (es : List LongAccepted) → is_none_of es ≡ true → es ≡ []
none_of [] none = refl
none_of (e ∷ es) none = absurd cc

-- a fresh pair was not accepted
pair_unseen : (h : LongHistory) (time id : ℕ) (now : Moment) → long_freshness h time id now ≡ Fresh → was_accepted (of_time time h.accepted) id ≡ false
unfolding long_freshness
pair_unseen h time id now fresh =
    fresh_cases (eqb id 0) (is_none_of h.accepted) (ltb time (latest h.accepted)) (ltb (latest h.accepted) time) (freshness (at_time h time) id now)
    (was_accepted (of_time time h.accepted) id ≡ false)
    (λ none. ap (λ (es : List LongAccepted). was_accepted (of_time time es) id) (none_of h.accepted none))
    (λ above. ap (λ (es : List Accepted). was_accepted es id) (of_time_above time h.accepted (grind (arith, above))))
    (unseen_if_fresh (at_time h time) id now) fresh

-- a pair of another time is none of this one
of_time-other : (time : ℕ) (es : List LongAccepted) (e : LongAccepted) → eqb e.time time ≡ false → of_time time (es ++ e ∷ []) ≡ of_time time es
of_time-other time [] e other = rw other refl
of_time-other time (x ∷ es) e other =
    ap (λ (t : List Accepted). cond (eqb x.time time) ((x.id, x.moment) ∷ t) t) (of_time-other time es e other)

distinct_push : (b : Bool) (time : ℕ) (es : List LongAccepted) (e : LongAccepted) → eqb e.time time ≡ b → was_accepted (of_time e.time es) e.id ≡ false →
    AreDistinct (of_time time es) → AreDistinct (of_time time (es ++ e ∷ []))
distinct_push true time es e is unseen distinct =
    let same : e.time ≡ time = grind (arith, is) in
    subst AreDistinct (sym (of_time-push time es e same))
    (push_distinct (of_time time es) (e.id, e.moment) distinct (subst (λ (t : ℕ). was_accepted (of_time t es) e.id ≡ false) same unseen))
distinct_push false time es e is unseen distinct = subst AreDistinct (sym (of_time-other time es e is)) distinct

distinct_pairs_so : (f : Freshness) (h : LongHistory) (e : WrapId) → (f ≡ Fresh → was_accepted (of_time e.0 h.accepted) e.1 ≡ false) →
    DistinctAtEach h.accepted → DistinctAtEach (long_judged_so f h e).accepted
distinct_pairs_so Fresh h e unseen distinct = λ time.
    distinct_push (eqb e.0 time) time h.accepted (record { time = e.0; id = e.1; moment = e.2 }) refl (unseen refl) (distinct time)
distinct_pairs_so Zero h e unseen distinct = distinct
distinct_pairs_so Old h e unseen distinct = distinct
distinct_pairs_so Seen h e unseen distinct = distinct
distinct_pairs_so Late h e unseen distinct = distinct

-- a run keeps them distinct
pub distinct_pairs_after_all : (es : List WrapId) (h : LongHistory) → DistinctAtEach h.accepted → DistinctAtEach (long_after_all es h).accepted
distinct_pairs_after_all [] h distinct = distinct
distinct_pairs_after_all (e ∷ es) h distinct =
    distinct_pairs_after_all es (long_after h e) (distinct_pairs_so (long_freshness h e.0 e.1 e.2) h e (pair_unseen h e.0 e.1 e.2) distinct)
