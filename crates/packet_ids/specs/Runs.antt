-- Whole runs: what is answered to ids that come one after the other, where each fresh one is accepted.
use Rattle.std.specs.Prelude.{◌≡◌, ℕ, false, List, [], ◌∷◌}
use Rattle.vpn_base.specs.declared.names.Moment.{Moment}
use Rattle.vpn_base.specs.declared.names.Freshness.{Freshness}
use Rattle.vpn_base.specs.declared.names.Freshness.TheVariants.{Fresh}
use Rattle.packet_ids.specs.Freshness.{Accepted, History, recorded, was_accepted, freshness}
use Rattle.packet_ids.specs.LongFreshness.{LongHistory, long_recorded, long_freshness}

-- the history after an id that was judged so
abbrev pub judged_so : Freshness → History → ℕ → Moment → History
judged_so Fresh h id now = recorded h id now
judged_so other h id now = h

-- the history after an id came
abbrev pub after : History → Accepted → History
after h e = judged_so (freshness h e.0 e.1) h e.0 e.1

-- the answer to each id, in order
abbrev pub answers_to : List Accepted → History → List Freshness
answers_to [] h = []
answers_to (e ∷ es) h = freshness h e.0 e.1 ∷ answers_to es (after h e)

-- the history after all of them
abbrev pub after_all : List Accepted → History → History
after_all [] h = h
after_all (e ∷ es) h = after_all es (after h e)

-- no id comes twice
abbrev pub AreDistinct : List Accepted → Type 0
AreDistinct [] = Unit {0}
AreDistinct (e ∷ es) = (was_accepted es e.0 ≡ false) × AreDistinct es

-- a time, an id and a moment
abbrev pub WrapId : Type 0
WrapId = ℕ × ℕ × Moment

-- the history after a pair that was judged so
abbrev pub long_judged_so : Freshness → LongHistory → WrapId → LongHistory
long_judged_so Fresh h e = long_recorded h e.0 e.1 e.2
long_judged_so other h e = h

-- the history after a pair came
abbrev pub long_after : LongHistory → WrapId → LongHistory
long_after h e = long_judged_so (long_freshness h e.0 e.1 e.2) h e

-- the answer to each pair, in order
abbrev pub long_answers_to : List WrapId → LongHistory → List Freshness
long_answers_to [] h = []
long_answers_to (e ∷ es) h = long_freshness h e.0 e.1 e.2 ∷ long_answers_to es (long_after h e)

-- the history after all of them
abbrev pub long_after_all : List WrapId → LongHistory → LongHistory
long_after_all [] h = h
long_after_all (e ∷ es) h = long_after_all es (long_after h e)
