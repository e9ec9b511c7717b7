-- What a window keeps of everything that was accepted: a ring of places.
use Rattle.std.specs.Prelude.{◌≡◌, ◌≢◌, ◌⊎◌, ℕ, ◌+◌, ◌-◌, ◌*◌, ◌%◌, ◌<◌, ◌==◌, ◌&&◌, nat_le, nat_lt, Bool, true, List, [], ◌∷◌, slice_index_or, if◌then◌else◌}
use Rattle.std.specs.List.{list_any, range_with_len}
use Rattle.vpn_base.specs.declared.names.Moment.{Moment}
use Rattle.vpn_base.specs.declared.names.Freshness.{Freshness}
use Rattle.vpn_base.specs.declared.names.Freshness.TheVariants.{Fresh, Zero, Old, Seen, Late}
use Rattle.packet_ids.specs.declared.places.Place.{Place}
use Rattle.packet_ids.specs.Freshness.{Accepted, History, greatest_id}

-- what is kept: the settings, the stamp under which places count, the greatest id, and as many places as the window is wide
pub record Kept : Type 0 where
  pub width : ℕ
  pub seconds : ℕ
  pub stamp : ℕ
  pub greatest : ℕ
  pub places : List Place

-- a place that no id was put into
abbrev pub unused : Place
unused = record { stamp = 0; id = 0; moment = record { 0 = 0 } }

-- the place of an id, which it shares with all ids of the same remainder by the width
abbrev pub place_of : Kept → ℕ → Place
place_of w id = slice_index_or w.places (id % w.width) unused

-- whether its place has this id: neither another id nor one of an earlier stamp
abbrev pub has_id : Kept → ℕ → Bool
has_id w id = ((place_of w id).stamp == w.stamp) && ((place_of w id).id == id)

-- whether it has this id, which was accepted more than the window's seconds ago, by moments in milliseconds
abbrev pub has_old : Kept → Moment → ℕ → Bool
has_old w now id = has_id w id && nat_lt ((place_of w id).moment.0 + 1000 * w.seconds) now.0

-- whether a higher id, up to the greatest, is such
abbrev pub has_overtaking : Kept → ℕ → Moment → Bool
has_overtaking w id now = list_any (has_old w now) (range_with_len (id + 1) (w.greatest - id))

-- what `test` answers, by what is kept: the first that holds
unfoldable pub answer : Kept → ℕ → Moment → Freshness
answer w id now =
    if id == 0 then Zero
    else if nat_le w.width (w.greatest - id) then Old
    else if has_id w id then Seen
    else if has_overtaking w id now then Late
    else Fresh

-- one of the accepted ids is this, with its moment
abbrev pub HasEntry : List Accepted → Accepted → Type 0
HasEntry [] e = ⊥
HasEntry (x ∷ xs) e = (x ≡ e) ⊎ HasEntry xs e

-- what is kept stands for a history: near ids have their places, and an id that its place has was accepted
pub record IsKeptOf (w : Kept) (h : History) : Type 0 where
  pub some : 0 < h.width
  pub width : w.width ≡ h.width
  pub seconds : w.seconds ≡ h.seconds
  pub greatest : w.greatest ≡ greatest_id h.accepted
  pub near : (e : Accepted) → HasEntry h.accepted e → greatest_id h.accepted - e.0 < h.width →
      place_of w e.0 ≡ record { stamp = w.stamp; id = e.0; moment = e.1 }
  pub only : (id : ℕ) → id ≢ 0 → has_id w id ≡ true → HasEntry h.accepted (id, (place_of w id).moment)

-- the same as one word, which callers do not look into
unfoldable pub Stands : Kept → History → Type 0
Stands w h = IsKeptOf w h
