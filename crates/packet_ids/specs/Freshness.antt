-- Whether a packet id may be accepted, by everything that was accepted before (RFC 4303, section 3.4.3, with a limit on the age of late packets).
use Rattle.std.specs.Prelude.{ℕ, ◌+◌, ◌-◌, ◌*◌, ◌==◌, ◌&&◌, nat_lt, nat_le, max, Bool, List, [], ◌∷◌, ◌++◌, if◌then◌else◌}
use Rattle.std.specs.List.{list_any}
use Rattle.vpn_base.specs.declared.names.Moment.{Moment}
use Rattle.vpn_base.specs.declared.names.Freshness.{Freshness}
use Rattle.vpn_base.specs.declared.names.Freshness.TheVariants.{Fresh, Zero, Old, Seen, Late}

-- an id, and the moment at which it was accepted
abbrev pub Accepted : Type 0
Accepted = ℕ × Moment

-- the width of the window in ids, the seconds for which late ids stay fresh, and everything that was accepted, in order
pub record History : Type 0 where
  pub width : ℕ
  pub seconds : ℕ
  pub accepted : List Accepted

-- nothing was accepted yet
abbrev pub begun : ℕ → ℕ → History
begun width seconds = record { width = width; seconds = seconds; accepted = [] }

-- one id more was accepted
abbrev pub recorded : History → ℕ → Moment → History
recorded h id now = record h { accepted = h.accepted ++ (id, now) ∷ [] }

-- the greatest id that was accepted, and 0 if there is none
abbrev pub greatest_id : List Accepted → ℕ
greatest_id [] = 0
greatest_id (e ∷ es) = max e.0 (greatest_id es)

-- the id was accepted
abbrev pub was_accepted : List Accepted → ℕ → Bool
was_accepted accepted id = list_any (λ e. e.0 == id) accepted

-- a higher id that was accepted more than so many seconds ago, by moments in milliseconds
abbrev pub overtakes : ℕ → ℕ → Moment → Accepted → Bool
overtakes seconds id now e = nat_lt id e.0 && nat_lt (e.1.0 + 1000 * seconds) now.0

-- some id is such
abbrev pub is_overtaken : ℕ → List Accepted → ℕ → Moment → Bool
is_overtaken seconds accepted id now = list_any (overtakes seconds id now) accepted

-- the first that holds, by the greatest id and the accepted ids
abbrev pub judged : ℕ → ℕ → ℕ → List Accepted → ℕ → Moment → Freshness
judged width seconds most accepted id now =
    if id == 0 then Zero
    else if nat_le width (most - id) then Old
    else if was_accepted accepted id then Seen
    else if is_overtaken seconds accepted id now then Late
    else Fresh

-- whether the id may be accepted now
unfoldable pub freshness : History → ℕ → Moment → Freshness
freshness h id now = judged h.width h.seconds (greatest_id h.accepted) h.accepted id now
