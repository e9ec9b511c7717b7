-- What contracts see of a sending side, and what of everything that was ever offered it keeps.
use Rattle.std.specs.Prelude.{◌≡◌, ℕ, suc, ◌+◌, ◌≤◌, ◌==◌, ◌&&◌, ◌||◌, not, Bool, true, false, List, [], ◌∷◌, length, drop, map, Option, Some, None, Result, Ok, Err, if◌then◌else◌}
use Rattle.std.specs.List.{list_any}
use Rattle.vpn_base.specs.declared.errors.Or.{Or}
use Rattle.vpn_base.specs.declared.errors.Or.TheVariants.{Memory, Why}
use Rattle.vpn_base.specs.declared.names.Moment.{Moment}
use Rattle.reliable_send.specs.declared.pieces.Piece.{Piece}
use Rattle.reliable_send.specs.declared.pieces.KeptPiece.{KeptPiece}
use Rattle.reliable_send.specs.Sending.{Offered, Sending, Numbered, was_sent, first_unacknowledged, those, interval, ready, due, sent}

-- ---- what is kept

-- seconds from the first sending of a piece to the next, whether the peer's packet 0 is here, the first id that is not acknowledged, and the pieces from it on
pub record Kept : Type 0 where
  pub timeout : ℕ
  pub started : Bool
  pub first : ℕ
  pub pieces : List KeptPiece

-- what contracts see of a side: what is kept, and how many more pieces there is room for
pub record Side : Type 0 where
  pub kept : Kept
  pub spare : ℕ

-- the last of these sendings, the latest of which stands first
abbrev pub last_of : List ℕ → Option Moment
last_of [] = None
last_of (last ∷ earlier) = Some (record { 0 = last })

-- the interval behind the last of these sendings in milliseconds, and 0 before the first
abbrev pub interval_behind : ℕ → List ℕ → ℕ
interval_behind timeout [] = 0
interval_behind timeout (last ∷ earlier) = interval timeout (suc (length earlier))

-- what is kept of a piece
abbrev pub seen : ℕ → Offered → KeptPiece
seen timeout p = record { bytes = p.bytes; last = last_of p.sendings; interval = interval_behind timeout p.sendings; acknowledged = p.acknowledged }

-- none of them was sent
abbrev pub AreUnsent : List Offered → Type 0
AreUnsent [] = Unit {0}
AreUnsent (p ∷ pieces) = (was_sent p ≡ false) × AreUnsent pieces

-- those of them that are acknowledged were sent
abbrev pub AreAckedSent : List Offered → Type 0
AreAckedSent [] = Unit {0}
AreAckedSent (p ∷ pieces) = (p.acknowledged ≡ true → was_sent p ≡ true) × AreAckedSent pieces

-- what holds of each history that is reached: only sent pieces are acknowledged, and sent pieces lie less than 6 above the first that is not acknowledged
pub record IsReached (h : Sending) : Type 0 where
  pub some : 1 ≤ h.timeout
  pub most : h.timeout ≤ 60
  pub acked : AreAckedSent h.pieces
  pub beyond : AreUnsent (drop (first_unacknowledged h.pieces + 6) h.pieces)

-- the pieces from the first on that is not acknowledged are kept, and nothing of those before
pub record IsKeptOf (w : Kept) (h : Sending) : Type 0 where
  pub timeout : w.timeout ≡ h.timeout
  pub started : w.started ≡ h.started
  pub first : w.first ≡ first_unacknowledged h.pieces
  pub pieces : w.pieces ≡ map (seen h.timeout) (drop (first_unacknowledged h.pieces) h.pieces)
  pub reached : IsReached h

-- the same of a side as one word, which callers do not look into
unfoldable pub Stands : Side → Sending → Type 0
Stands side h = IsKeptOf side.kept h

-- the pieces that were sent and are not acknowledged, in order of their ids
unfoldable pub in_flight : Sending → List Numbered
in_flight h = those (λ id p. was_sent p && not p.acknowledged) 0 h.pieces

-- ---- what calls answer and count

-- a call did not end for want of memory
abbrev pub IsNotMemory : {A E : Type 0} → Result A (Or E) → Type 0
IsNotMemory (Ok x) = Unit {0}
IsNotMemory (Err Memory) = ⊥
IsNotMemory (Err (Why e)) = Unit {0}

-- the first of some pieces
abbrev pub first_of : List Numbered → Option Numbered
first_of [] = None
first_of (p ∷ pieces) = Some p

-- the id of the first of them
abbrev pub first_id : List Numbered → Option ℕ
first_id [] = None
first_id (p ∷ pieces) = Some p.0

-- what a piece that is lent shows
abbrev pub seen_piece : Option Piece → Option Numbered
seen_piece None = None
seen_piece (Some p) = Some (p.id, p.bytes.now)

-- a piece of this id is among these
abbrev pub is_among : ℕ → List Numbered → Bool
is_among id pieces = list_any (λ p. p.0 == id) pieces

-- a piece that may be sent, or is due, was sent at this moment; of no other does anything change
unfoldable pub counted : Sending → ℕ → ℕ → Sending
counted h id now = if is_among id (ready h) || is_among id (due h now) then sent h id now else h
