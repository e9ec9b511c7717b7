-- What a window of pairs keeps decides as everything that was accepted does.
use Rattle.std.proofs.Common.{◌≡◌, ◌≢◌, ℕ, ◌-◌, ◌<◌, ◌≤◌, max, Bool, true, false, cond, eqb, ltb, leb, List, [], ◌∷◌, ◌++◌, refl, sym, ap, subst, ◌∙◌, arith}
use Rattle.vpn_base.specs.declared.names.Moment.{Moment}
use Rattle.vpn_base.specs.declared.names.Freshness.{Freshness}
use Rattle.vpn_base.specs.declared.names.Freshness.TheVariants.{Fresh, Zero, Old}
use Rattle.packet_ids.specs.declared.long_windows.LongWindow.{LongWindow}
use Rattle.packet_ids.specs.Freshness.{Accepted, begun, recorded, judged, freshness}
use Rattle.packet_ids.specs.Window.{Stands, answer}
use Rattle.packet_ids.specs.LongFreshness.{LongAccepted, LongHistory, long_begun, long_recorded, latest, is_none_of, of_time, at_time, long_freshness}
use Rattle.packet_ids.specs.LongWindows.{LongStands, long_answer}
use Rattle.packet_ids.proofs.Standing.{answer_is, some_of}

pub latest-push : (es : List LongAccepted) (e : LongAccepted) → latest (es ++ e ∷ []) ≡ max (latest es) e.time
latest-push [] e = omega arith
latest-push (x ∷ es) e = let k = latest-push es e in omega arith

of_time_when : (b : Bool) (x : Accepted) (es : List Accepted) (more : List Accepted) → cond b (x ∷ (es ++ more)) (es ++ more) ≡ cond b (x ∷ es) es ++ more
of_time_when true x es more = refl
of_time_when false x es more = refl

-- one pair more of this time
pub of_time-push : (time : ℕ) (es : List LongAccepted) (e : LongAccepted) → e.time ≡ time → of_time time (es ++ e ∷ []) ≡ of_time time es ++ (e.id, e.moment) ∷ []
of_time-push time [] e same = let yes : eqb e.time time ≡ true = grind arith in rw yes refl
of_time-push time (x ∷ es) e same =
    ap (λ (t : List Accepted). cond (eqb x.time time) ((x.id, x.moment) ∷ t) t) (of_time-push time es e same)
    ∙ of_time_when (eqb x.time time) (x.id, x.moment) (of_time time es) ((e.id, e.moment) ∷ [])

-- no pair has a time above the latest
pub of_time_above : (time : ℕ) (es : List LongAccepted) → latest es < time → of_time time es ≡ []
of_time_above time [] above = refl
of_time_above time (x ∷ es) above =
    let no : eqb x.time time ≡ false = grind arith in rw no (of_time_above time es (omega arith))

-- the latest time decides first, and then the ids of that time
same_when : (zero earlier later : Bool) (a b : Freshness) → (zero ≡ false → earlier ≡ false → later ≡ false → a ≡ b) →
    cond zero Zero (cond earlier Old (cond later Fresh a)) ≡ cond zero Zero (cond earlier Old (cond later Fresh b))
same_when true earlier later a b same = refl
same_when false true later a b same = refl
same_when false false true a b same = refl
same_when false false false a b same = same refl refl refl

-- where nothing was accepted, all but the id 0 is fresh
none_when : (zero later : Bool) (a : Freshness) → (zero ≡ false → a ≡ Fresh) → cond zero Zero (cond later Fresh a) ≡ cond zero Zero Fresh
none_when true later a same = refl
none_when false true a same = refl
none_when false false a same = same refl

-- with nothing accepted, every id but 0 is fresh
fresh_at_first : (width seconds id : ℕ) (now : Moment) → 0 < width → id ≢ 0 → judged width seconds 0 [] id now ≡ Fresh
fresh_at_first width seconds id now some not_zero =
    let zero : eqb id 0 ≡ false = grind arith in
    let old : leb width (0 - id) ≡ false = grind arith in
    rw (zero, old) refl

at_first : (width seconds time id : ℕ) (now : Moment) → 0 < width →
    cond (eqb id 0) Zero (cond (ltb time 0) Old (cond (ltb 0 time) Fresh (freshness (begun width seconds) id now))) ≡ cond (eqb id 0) Zero Fresh
unfolding freshness
at_first width seconds time id now some =
    let no : ltb time 0 ≡ false = grind arith in
    rw no (none_when (eqb id 0) (ltb 0 time) (judged width seconds 0 [] id now) (λ not. fresh_at_first width seconds id now some (grind arith)))

by_time : (h : LongHistory) (es : List LongAccepted) (time id : ℕ) (now : Moment) → h.accepted ≡ es → 0 < h.width →
    cond (eqb id 0) Zero (cond (ltb time (latest es)) Old (cond (ltb (latest es) time) Fresh (freshness (record { width = h.width; seconds = h.seconds; accepted = of_time (latest es) es }) id now)))
    ≡ cond (eqb id 0) Zero (cond (is_none_of es) Fresh (cond (ltb time (latest es)) Old (cond (ltb (latest es) time) Fresh (freshness (record { width = h.width; seconds = h.seconds; accepted = of_time time es }) id now))))
by_time h [] time id now is some = at_first h.width h.seconds time id now some
by_time h (e ∷ es) time id now is some =
    same_when (eqb id 0) (ltb time (latest (e ∷ es))) (ltb (latest (e ∷ es)) time) _ _ (λ not early late.
    let same : latest (e ∷ es) ≡ time = grind arith in
    ap (λ (t : ℕ). freshness (record { width = h.width; seconds = h.seconds; accepted = of_time t (e ∷ es) }) id now) same)

pub long_answer_is : (w : LongWindow) (h : LongHistory) (time id : ℕ) (now : Moment) → LongStands w h → long_answer w time id now ≡ long_freshness h time id now
unfolding LongStands long_answer long_freshness
long_answer_is w h time id now s =
    rw (answer_is w.window (at_time h (latest h.accepted)) id now s.window, s.time)
    (by_time h h.accepted time id now refl (some_of w.window (at_time h (latest h.accepted)) s.window))

pub long_stands_begun : (w : LongWindow) (width seconds : ℕ) → w.window.stamp ≡ 0 → Stands w.window (begun width seconds) → LongStands w (long_begun width seconds)
unfolding LongStands
long_stands_begun w width seconds time s = record { time = time; window = s }

-- a pair of a later time begins a window anew
pub later_accepted : (w n : LongWindow) (h : LongHistory) (time id : ℕ) (now : Moment) → LongStands w h → w.window.stamp < time → n.window.stamp ≡ time →
    Stands n.window (recorded (begun h.width h.seconds) id now) → LongStands n (long_recorded h time id now)
unfolding LongStands
later_accepted w n h time id now s later is stands =
    let e : LongAccepted = record { time = time; id = id; moment = now } in
    let top : latest (h.accepted ++ e ∷ []) ≡ time = omega (arith, latest-push h.accepted e, s.time, later) in
    let none : of_time time h.accepted ≡ [] = of_time_above time h.accepted (omega (arith, s.time, later)) in
    let ids : of_time (latest (h.accepted ++ e ∷ [])) (h.accepted ++ e ∷ []) ≡ (id, now) ∷ [] =
    ap (λ (t : ℕ). of_time t (h.accepted ++ e ∷ [])) top ∙ of_time-push time h.accepted e refl ∙ ap (λ (t : List Accepted). t ++ (id, now) ∷ []) none in
    record { time = is ∙ sym top; window = subst (λ (t : List Accepted). Stands n.window (record { width = h.width; seconds = h.seconds; accepted = t })) (sym ids) stands }

-- a pair of the same time is one id more in the window
pub same_accepted : (w n : LongWindow) (h : LongHistory) (time id : ℕ) (now : Moment) → LongStands w h → w.window.stamp ≡ time → n.window.stamp ≡ time →
    Stands n.window (recorded (at_time h (latest h.accepted)) id now) → LongStands n (long_recorded h time id now)
unfolding LongStands
same_accepted w n h time id now s same is stands =
    let e : LongAccepted = record { time = time; id = id; moment = now } in
    let before : latest h.accepted ≡ time = sym s.time ∙ same in
    let top : latest (h.accepted ++ e ∷ []) ≡ time = omega (arith, latest-push h.accepted e, before) in
    let ids : of_time (latest (h.accepted ++ e ∷ [])) (h.accepted ++ e ∷ []) ≡ of_time (latest h.accepted) h.accepted ++ (id, now) ∷ [] =
    ap (λ (t : ℕ). of_time t (h.accepted ++ e ∷ [])) top ∙ of_time-push time h.accepted e refl ∙ ap (λ (t : ℕ). of_time t h.accepted ++ (id, now) ∷ []) (sym before) in
    record { time = is ∙ sym top; window = subst (λ (t : List Accepted). Stands n.window (record { width = h.width; seconds = h.seconds; accepted = t })) (sym ids) stands }

-- what a fresh answer says of the time, and then of the id
pub record IsLongFresh (w : LongWindow) (time id : ℕ) (now : Moment) : Type 0 where
  pub not_zero : id ≢ 0
  pub not_early : w.window.stamp ≤ time
  pub within : time ≤ w.window.stamp → answer w.window id now ≡ Fresh

long_fresh_when : (zero earlier later : Bool) (a : Freshness) → cond zero Zero (cond earlier Old (cond later Fresh a)) ≡ Fresh → (zero ≡ false) × (earlier ≡ false) × (later ≡ false → a ≡ Fresh)
long_fresh_when true earlier later a h = absurd cc
long_fresh_when false true later a h = absurd cc
long_fresh_when false false true a h = (refl, refl, λ never. absurd cc)
long_fresh_when false false false a h = (refl, refl, λ _. h)

pub long_fresh_is : (w : LongWindow) (time id : ℕ) (now : Moment) → long_answer w time id now ≡ Fresh → IsLongFresh w time id now
unfolding long_answer
long_fresh_is w time id now h =
    let f = long_fresh_when (eqb id 0) (ltb time w.window.stamp) (ltb w.window.stamp time) (answer w.window id now) h in
    record { not_zero = grind (arith, f.0); not_early = grind (arith, f.1); within = λ no_later. f.2 (grind arith) }

pub window_of : (w : LongWindow) (h : LongHistory) → LongStands w h → Stands w.window (at_time h (latest h.accepted))
unfolding LongStands
window_of w h s = s.window
