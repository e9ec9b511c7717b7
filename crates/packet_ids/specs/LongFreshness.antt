-- Whether a pair of time and id may be accepted, by everything that was accepted before (OpenVPN network protocol, replay protection of the control channel).
use Rattle.std.specs.Prelude.{ℕ, ◌==◌, nat_lt, max, Bool, true, false, List, [], ◌∷◌, ◌++◌, if◌then◌else◌}
use Rattle.vpn_base.specs.declared.names.Moment.{Moment}
use Rattle.vpn_base.specs.declared.names.Freshness.{Freshness}
use Rattle.vpn_base.specs.declared.names.Freshness.TheVariants.{Fresh, Zero, Old}
use Rattle.packet_ids.specs.Freshness.{Accepted, History, freshness}

-- a time and an id, and the moment at which they were accepted
pub record LongAccepted : Type 0 where
  pub time : ℕ
  pub id : ℕ
  pub moment : Moment

-- the width of the window in ids, the seconds for which late ids stay fresh, and everything that was accepted, in order
pub record LongHistory : Type 0 where
  pub width : ℕ
  pub seconds : ℕ
  pub accepted : List LongAccepted

-- nothing was accepted yet
abbrev pub long_begun : ℕ → ℕ → LongHistory
long_begun width seconds = record { width = width; seconds = seconds; accepted = [] }

-- one pair more was accepted
abbrev pub long_recorded : LongHistory → ℕ → ℕ → Moment → LongHistory
long_recorded h time id now = record h { accepted = h.accepted ++ record { time = time; id = id; moment = now } ∷ [] }

-- the greatest time that was accepted, and 0 if there is none
abbrev pub latest : List LongAccepted → ℕ
latest [] = 0
latest (e ∷ es) = max e.time (latest es)

-- nothing is in the list
abbrev pub is_none_of : List LongAccepted → Bool
is_none_of [] = true
is_none_of (e ∷ es) = false

-- the ids that were accepted with this time
abbrev pub of_time : ℕ → List LongAccepted → List Accepted
of_time time [] = []
of_time time (e ∷ es) = if e.time == time then (e.id, e.moment) ∷ of_time time es else of_time time es

-- the history of the ids of this time
abbrev pub at_time : LongHistory → ℕ → History
at_time h time = record { width = h.width; seconds = h.seconds; accepted = of_time time h.accepted }

-- whether the pair may be accepted now: an earlier time is old, a later one is fresh, and within the latest time the ids decide
unfoldable pub long_freshness : LongHistory → ℕ → ℕ → Moment → Freshness
long_freshness h time id now =
    if id == 0 then Zero
    else if is_none_of h.accepted then Fresh
    else if nat_lt time (latest h.accepted) then Old
    else if nat_lt (latest h.accepted) time then Fresh
    else freshness (at_time h time) id now
