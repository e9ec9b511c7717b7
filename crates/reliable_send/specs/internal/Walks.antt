-- What the walks over kept pieces find and change.
use Rattle.std.specs.Prelude.{ℕ, zero, suc, ◌+◌, ◌-◌, ◌*◌, ◌==◌, ◌&&◌, ◌||◌, nat_le, not, min, Bool, true, false, List, [], ◌∷◌, take, Option, Some, None, is_none, if◌then◌else◌}
use Rattle.vpn_base.specs.declared.names.Moment.{Moment}
use Rattle.reliable_send.specs.declared.pieces.KeptPiece.{KeptPiece}
use Rattle.reliable_send.specs.declared.pieces.Wanted.{Wanted}
use Rattle.reliable_send.specs.declared.pieces.Wanted.TheVariants.{Unsent, Due}
use Rattle.reliable_send.specs.Sending.{Numbered}
use Rattle.reliable_send.specs.Sides.{is_among}

-- ---- the pieces that go out

-- the interval behind a sending is over
abbrev pub has_passed : Option Moment → ℕ → Moment → Bool
has_passed None interval now = false
has_passed (Some last) interval now = nat_le (last.0 + interval) now.0

-- a piece is among those that are looked for
abbrev pub fits : Wanted → ℕ → KeptPiece → Bool
fits (Unsent started) id p = is_none p.last && (id == 0 || started)
fits (Due now) id p = not p.acknowledged && has_passed p.last p.interval now

-- of pieces, the first of which has this id, those that are looked for, with their ids
abbrev pub found : Wanted → ℕ → List KeptPiece → List Numbered
found wanted id [] = []
found wanted id (p ∷ pieces) = if fits wanted id p then (id, p.bytes) ∷ found wanted (id + 1) pieces else found wanted (id + 1) pieces

-- ---- changes

-- one piece changed, at its place
abbrev pub alter : (KeptPiece → KeptPiece) → ℕ → List KeptPiece → List KeptPiece
alter change place [] = []
alter change zero (p ∷ pieces) = change p ∷ pieces
alter change (suc place) (p ∷ pieces) = p ∷ alter change place pieces

-- a piece that was sent is acknowledged
abbrev pub mark : KeptPiece → KeptPiece
mark p = if is_none p.last then p else record p { acknowledged = true }

-- the interval behind the next sending, after a last one with this interval
abbrev pub next_interval : ℕ → Option Moment → ℕ → ℕ
next_interval timeout None interval = 1000 * timeout
next_interval timeout (Some last) interval = min (2 * interval) 60000

-- a piece that was sent once more
abbrev pub count_one : ℕ → Moment → KeptPiece → KeptPiece
count_one timeout now p = record p { last = Some now; interval = next_interval timeout p.last p.interval }

-- how many of the first are acknowledged, up to one that is not
abbrev pub leading : List KeptPiece → ℕ
leading [] = 0
leading (p ∷ pieces) = if p.acknowledged then suc (leading pieces) else 0

-- ---- counting

-- the kept pieces after the one of this id was sent at this moment, where it may be sent or is due
unfoldable pub counted_pieces : Bool → ℕ → ℕ → ℕ → Moment → List KeptPiece → List KeptPiece
counted_pieces started first timeout id now pieces =
    if is_among id (found (Unsent started) first (take 6 pieces)) || is_among id (found (Due now) first (take 6 pieces))
    then alter (count_one timeout now) (id - first) pieces else pieces
