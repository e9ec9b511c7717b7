-- What a window of pairs keeps of everything that was accepted.
use Rattle.std.specs.Prelude.{◌≡◌, ℕ, ◌==◌, nat_lt, if◌then◌else◌}
use Rattle.vpn_base.specs.declared.names.Moment.{Moment}
use Rattle.vpn_base.specs.declared.names.Freshness.{Freshness}
use Rattle.vpn_base.specs.declared.names.Freshness.TheVariants.{Fresh, Zero, Old}
use Rattle.packet_ids.specs.declared.long_windows.LongWindow.{LongWindow}
use Rattle.packet_ids.specs.Window.{Stands, answer}
use Rattle.packet_ids.specs.LongFreshness.{LongHistory, latest, at_time}

-- its stamp is the latest time, and its window stands for the ids of that time
pub record IsLongKeptOf (w : LongWindow) (h : LongHistory) : Type 0 where
  pub time : w.window.stamp ≡ latest h.accepted
  pub window : Stands w.window (at_time h (latest h.accepted))

-- the same as one word, which callers do not look into
unfoldable pub LongStands : LongWindow → LongHistory → Type 0
LongStands w h = IsLongKeptOf w h

-- what `test` answers, by what is kept
unfoldable pub long_answer : LongWindow → ℕ → ℕ → Moment → Freshness
long_answer w time id now =
    if id == 0 then Zero
    else if nat_lt time w.window.stamp then Old
    else if nat_lt w.window.stamp time then Fresh
    else answer w.window id now
