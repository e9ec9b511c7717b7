-- The room in the texts of a client's key sessions, while it is taken.
use Rattle.std.specs.Prelude.{◌≡◌, ◌≤◌, ◌+◌, ◌*◌, ℕ, max, Option, Some, None}
use Rattle.reliable_send.specs.Sending.{piece_count}
use Rattle.key_sessions.specs.declared.slots.Slots.{Slots}
use Rattle.key_sessions.specs.Slots.{text_at}
use Rattle.peer_lines.specs.declared.channels.SessionChannels.{SessionChannels}
use Rattle.peer_lines.specs.Rooms.{KeepsRoom, longest, payload_room, plain_room, text_room}

-- a text has room for a payload, for text for the other end and for plain text, each of so many bytes
pub record HasRooms (payload said plain : ℕ) (text : SessionChannels) : Type 0 where
  pub payload_fits : payload ≤ payload_room text
  pub said_fits : piece_count said ≤ text_room text
  pub plain_fits : plain ≤ plain_room text

-- so many bytes are enough for what a text puts to the engine and sends after a payload of so many
abbrev pub SendsWithin : ℕ → ℕ → SessionChannels → Type 0
SendsWithin payload bytes text = 7200 + 12 * max (longest text) payload ≤ bytes

-- each text that is there from this number on has this
abbrev pub EachFrom : ℕ → (SessionChannels → Type 0) → Slots SessionChannels → Type 0
EachFrom from has slots = (n : ℕ) (text : SessionChannels) → from ≤ n → text_at slots n ≡ Some text → has text

-- a text that is there was there before, and gave up no room
abbrev pub KeptText : Option SessionChannels → Option SessionChannels → Type 0
KeptText before None = Unit {0}
KeptText None (Some after) = ⊥
KeptText (Some before) (Some after) = KeepsRoom before after

-- so it is at each number
abbrev pub KeptTexts : Slots SessionChannels → Slots SessionChannels → Type 0
KeptTexts before after = (n : ℕ) → KeptText (text_at before n) (text_at after n)
