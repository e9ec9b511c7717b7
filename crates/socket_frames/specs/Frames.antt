-- Frames of a socket: four bytes of length of the rest, a byte of kind, eight bytes of connection, and the body.
use Rattle.std.specs.Prelude.{◌≡◌, ℕ, suc, zero, ◌+◌, ◌-◌, nat_le, nat_lt, ◌&&◌, Bool, true, false, List, [], ◌∷◌, ◌++◌, length, take, drop, slice_index, Option, None, Some}
use Rattle.byteorder.specs.Endian.{big_bytes, big_number}
use Rattle.socket_frames.specs.declared.frames.Frame.{Frame}
use Rattle.socket_frames.specs.declared.frames.FrameFault.{FrameFault}
use Rattle.socket_frames.specs.declared.frames.FrameFault.TheVariants.{TooLong, TooShort, BadKind}

-- the bytes of a frame
unfoldable pub spelling : Frame → List ℕ
spelling f = big_bytes 4 (9 + length f.body) ++ (f.kind ∷ []) ++ big_bytes 8 f.conn ++ f.body

-- the kinds that are read
abbrev pub is_read : ℕ → Bool
is_read kind = nat_le 1 kind && nat_le kind 6

-- what stands at the front of some bytes: less than a whole frame in which nothing is wrong so far, a field that is wrong, or a frame and the bytes behind it
pub data Front : Type 0 where
  Partial : Front
  Faulty : FrameFault → Front
  Whole : Frame → List ℕ → Front

-- with a body of this size: whether the frame is cut off
abbrev pub held : List ℕ → ℕ → Bool → Front
held bytes size true = Partial
held bytes size false = Whole (record { kind = slice_index bytes 4; conn = big_number 8 (drop 5 bytes); body = take size (drop 13 bytes) }) (drop (13 + size) bytes)

-- whether the kind is one that is read
abbrev pub kinded : List ℕ → ℕ → Bool → Front
kinded bytes size false = Faulty BadKind
kinded bytes size true = held bytes size (nat_lt (length bytes) (13 + size))

-- whether the kind is missing
abbrev pub sized : List ℕ → ℕ → Bool → Front
sized bytes size true = Partial
sized bytes size false = kinded bytes size (is_read (slice_index bytes 4))

-- whether the length is below that of an empty body
abbrev pub not_long : List ℕ → ℕ → Bool → Front
not_long bytes n true = Faulty TooShort
not_long bytes n false = sized bytes (n - 9) (nat_lt (length bytes) 5)

-- whether the length is above 65,536
abbrev pub told : List ℕ → ℕ → Bool → Front
told bytes n true = Faulty TooLong
told bytes n false = not_long bytes n (nat_lt n 9)

-- whether the length is missing
abbrev pub begun : List ℕ → Bool → Front
begun bytes true = Partial
begun bytes false = told bytes (big_number 4 bytes) (nat_lt 65536 (big_number 4 bytes))

-- the fields in order, each judged as soon as it is whole
unfoldable pub front : List ℕ → Front
front bytes = begun bytes (nat_lt (length bytes) 4)

-- all frames of a stream, and the fault at which they end, if there is one
pub record Reading : Type 0 where
  pub frames : List Frame
  pub fault : Option FrameFault

-- a frame, and what is read behind it
abbrev pub joined : Front → (List ℕ → Reading) → Reading
joined Partial read = record { frames = []; fault = None }
joined (Faulty fault) read = record { frames = []; fault = Some fault }
joined (Whole f rest) read = record { frames = f ∷ (read rest).frames; fault = (read rest).fault }

-- the same of at most so many frames
abbrev pub reading_of : ℕ → List ℕ → Reading
reading_of zero bytes = record { frames = []; fault = None }
reading_of (suc n) bytes = joined (front bytes) (reading_of n)

-- what is read of a stream, which has no more frames than bytes
unfoldable pub reading : List ℕ → Reading
reading bytes = reading_of (length bytes) bytes

-- these frames are the first of those
abbrev pub Begins : List Frame → List Frame → Type 0
Begins first all = (more : List Frame) × (all ≡ first ++ more)
