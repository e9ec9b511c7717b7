-- The sending side of the reliable layer: every piece that was ever offered, with the moments at which it was sent
-- (OpenVPN network protocol, reliability layer of the control channel).
use Rattle.std.specs.Prelude.{ℕ, zero, suc, ◌+◌, ◌-◌, ◌*◌, ◌^◌, ◌==◌, ◌&&◌, ◌||◌, nat_lt, nat_le, not, min, Bool, true, false, List, [], ◌∷◌, ◌++◌, length, take, drop, map, if◌then◌else◌}
use Rattle.std.specs.Int.{div_ceil}

-- the bytes of a piece, the moments in milliseconds at which it was sent, the latest first, and whether it was acknowledged
pub record Offered : Type 0 where
  pub bytes : List ℕ
  pub sendings : List ℕ
  pub acknowledged : Bool

-- seconds from the first sending of a piece to the next, whether the peer's own packet 0 is here, and the pieces: the id of a piece is its place
pub record Sending : Type 0 where
  pub timeout : ℕ
  pub started : Bool
  pub pieces : List Offered

-- a piece that was not sent yet
abbrev pub unsent : List ℕ → Offered
unsent bytes = record { bytes = bytes; sendings = []; acknowledged = false }

-- at first there is piece 0, without bytes
abbrev pub begun : ℕ → Sending
begun timeout = record { timeout = timeout; started = false; pieces = unsent [] ∷ [] }

-- the peer's own packet 0 is here
abbrev pub peer_started : Sending → Sending
peer_started s = record s { started = true }

-- ---- offering

-- bytes in pieces of 1,100, the last one of what is left; no bytes are no piece; no more than so many pieces
unfoldable pub cut_into : ℕ → List ℕ → List (List ℕ)
cut_into zero bytes = []
cut_into (suc most) [] = []
cut_into (suc most) (b ∷ bytes) = take 1100 (b ∷ bytes) ∷ cut_into most (drop 1100 (b ∷ bytes))

-- bytes in as many pieces as there are
abbrev pub cut : List ℕ → List (List ℕ)
cut bytes = cut_into (length bytes) bytes

-- how many pieces so many bytes are
abbrev pub piece_count : ℕ → ℕ
piece_count bytes = div_ceil bytes 1100

-- how many bytes wait or are not acknowledged
abbrev pub unacknowledged : List Offered → ℕ
unacknowledged [] = 0
unacknowledged (p ∷ pieces) = (if p.acknowledged then 0 else length p.bytes) + unacknowledged pieces

-- more than 65,536 bytes would wait or not be acknowledged, or an id would pass 0xFFFFFFFF
unfoldable pub is_full : Sending → List ℕ → Bool
is_full s bytes = nat_lt 65536 (unacknowledged s.pieces + length bytes) || nat_lt (2 ^ 32) (length s.pieces + length (cut bytes))

-- bytes were offered: their pieces stand behind all others
unfoldable pub offered : Sending → List ℕ → Sending
offered s bytes = record s { pieces = s.pieces ++ map unsent (cut bytes) }

-- ---- acknowledging

-- a piece was sent at least once
abbrev pub was_sent : Offered → Bool
was_sent p = not (length p.sendings == 0)

-- the piece at this place is acknowledged, if there is one and it was sent
abbrev pub acknowledge : ℕ → List Offered → List Offered
acknowledge id [] = []
acknowledge zero (p ∷ pieces) = (if was_sent p then record p { acknowledged = true } else p) ∷ pieces
acknowledge (suc id) (p ∷ pieces) = p ∷ acknowledge id pieces

-- an id was acknowledged
unfoldable pub acked : Sending → ℕ → Sending
acked s id = record s { pieces = acknowledge id s.pieces }

-- ---- sending

-- the first piece that is not acknowledged, or the count of pieces if all are
abbrev pub first_unacknowledged : List Offered → ℕ
first_unacknowledged [] = 0
first_unacknowledged (p ∷ pieces) = if p.acknowledged then suc (first_unacknowledged pieces) else 0

-- an id with the bytes of its piece
abbrev pub Numbered : Type 0
Numbered = ℕ × List ℕ

-- of pieces, the first of which has this id, those that fit, with their ids
abbrev pub those : (ℕ → Offered → Bool) → ℕ → List Offered → List Numbered
those fits id [] = []
those fits id (p ∷ pieces) = if fits id p then (id, p.bytes) ∷ those fits (id + 1) pieces else those fits (id + 1) pieces

-- a piece may be sent for the first time: at most 6 are in flight, and all but piece 0 wait for the peer's packet 0
abbrev pub may_be_sent : Sending → ℕ → Offered → Bool
may_be_sent s id p = not (was_sent p) && (id == 0 || s.started) && nat_lt id (first_unacknowledged s.pieces + 6)

-- the pieces that may be sent now, in order of their ids
unfoldable pub ready : Sending → List Numbered
ready s = those (may_be_sent s) 0 s.pieces

-- the interval in milliseconds behind the sending with this count: the timeout at first, doubled with each further sending, and 60 seconds at most
abbrev pub interval : ℕ → ℕ → ℕ
interval timeout count = 1000 * min (timeout * 2 ^ (count - 1)) 60

-- the interval behind the last of these sendings is over
abbrev pub is_over : ℕ → List ℕ → ℕ → Bool
is_over timeout [] now = false
is_over timeout (last ∷ earlier) now = nat_le (last + interval timeout (suc (length earlier))) now

-- a piece was sent, is not acknowledged, and its interval is over
abbrev pub is_due : Sending → ℕ → ℕ → Offered → Bool
is_due s now id p = not p.acknowledged && is_over s.timeout p.sendings now

-- the pieces that are due, in order of their ids
unfoldable pub due : Sending → ℕ → List Numbered
due s now = those (is_due s now) 0 s.pieces

-- the piece at this place was sent, at this moment
abbrev pub send : ℕ → ℕ → List Offered → List Offered
send id now [] = []
send zero now (p ∷ pieces) = record p { sendings = now ∷ p.sendings } ∷ pieces
send (suc id) now (p ∷ pieces) = p ∷ send id now pieces

-- a piece was sent
unfoldable pub sent : Sending → ℕ → ℕ → Sending
sent s id now = record s { pieces = send id now s.pieces }
