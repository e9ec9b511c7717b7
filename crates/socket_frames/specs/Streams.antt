-- A stream that comes in pieces.
use Rattle.std.specs.Prelude.{◌≡◌, List, [], ◌∷◌, ◌++◌, length, drop, ℕ, Option, None, Some, Result, Ok, Err}
use Rattle.vpn_base.specs.declared.errors.Or.{Or}
use Rattle.socket_frames.specs.declared.frames.Frame.{Frame}
use Rattle.socket_frames.specs.declared.frames.FrameFault.{FrameFault}
use Rattle.socket_frames.specs.Frames.{Whole, front, reading}

-- what was fed so far, and the frames that were given
pub record Stream : Type 0 where
  pub fed : List ℕ
  pub given : List Frame

-- nothing was fed yet
abbrev pub stream_begun : Stream
stream_begun = record { fed = []; given = [] }

-- with one more piece
abbrev pub fed_more : Stream → List ℕ → Stream
fed_more s piece = record { fed = s.fed ++ piece; given = s.given }

-- the first of these frames, and else the fault, if there is one
abbrev pub first_of : List Frame → Option FrameFault → Result (Option Frame) FrameFault
first_of (f ∷ frames) fault = Ok (Some f)
first_of [] None = Ok None
first_of [] (Some fault) = Err fault

-- the first frame that was not given yet
abbrev pub next_of : Stream → Result (Option Frame) FrameFault
next_of s = first_of (drop (length s.given) (reading s.fed).frames) (reading s.fed).fault

-- after a call answered this
abbrev pub after_next : Result (Option Frame) (Or FrameFault) → Stream → Stream
after_next (Ok (Some f)) s = record { fed = s.fed; given = s.given ++ f ∷ [] }
after_next result s = s

-- the frames stand one behind the other at the front of the bytes, and this is left behind them
abbrev pub Leaves : List ℕ → List Frame → List ℕ → Type 0
Leaves bytes [] left = left ≡ bytes
Leaves bytes (f ∷ frames) left = (rest : List ℕ) × (front bytes ≡ Whole f rest) × Leaves rest frames left

-- what a reader keeps of a stream: the bytes behind the frames that it gave
unfoldable pub Stands : List ℕ → Stream → Type 0
Stands left s = Leaves s.fed s.given left
