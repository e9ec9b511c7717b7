-- The search for a frame at the front of some bytes.
use Rattle.std.specs.Prelude.{◌≡◌, ℕ, false, List, Option, None, Some, Result, Ok, Err}
use Rattle.socket_frames.specs.declared.frames.FrameFault.{FrameFault}
use Rattle.socket_frames.specs.declared.frames.Frame.{Frame}
use Rattle.socket_frames.specs.Frames.{Front, Partial, Faulty, held, reading}
use Rattle.socket_frames.specs.Streams.{Stands}

-- what it found: a fault, nothing whole yet, or a frame with a body of this size
abbrev pub found : List ℕ → Result (Option ℕ) FrameFault → Front
found bytes (Err fault) = Faulty fault
found bytes (Ok None) = Partial
found bytes (Ok (Some size)) = held bytes size false

-- all that can be read of what was fed was given
pub record IsRead (left fed : List ℕ) (given : List Frame) (fault : Option FrameFault) : Type 0 where
  pub stands : Stands left (record { fed = fed; given = given })
  pub all_given : given ≡ (reading fed).frames
  pub at_fault : fault ≡ (reading fed).fault
