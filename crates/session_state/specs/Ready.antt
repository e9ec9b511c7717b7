-- The memory that a client's session has taken ahead for an event.
use Rattle.std.specs.Prelude.{◌≡◌, ◌≤◌, ◌<◌, ℕ, ◌+◌, ◌*◌, ◌^◌, true, length, max, Option, Some, None, is_some}
use Rattle.vpn_links.specs.declared.events.Kind.{Kind}
use Rattle.vpn_links.specs.declared.events.Kind.TheVariants.{Datagram, EngineText, EnginePlain, Tick}
use Rattle.reliable_send.specs.Sending.{piece_count}
use Rattle.key_sessions.specs.declared.slots.Slots.{Slots}
use Rattle.key_sessions.specs.Slots.{room, text_at}
use Rattle.peer_lines.specs.declared.blank.SessionBlank.{SessionBlank}
use Rattle.peer_lines.specs.declared.channels.SessionChannels.{SessionChannels}
use Rattle.peer_lines.specs.Rooms.{blank_room, longest, payload_room, plain_room, text_room}
use Rattle.session_state.specs.declared.session.SessionState.{SessionState}

-- each text that is there has this
abbrev pub EachText : (SessionChannels → Type 0) → Slots SessionChannels → Type 0
EachText has slots = (n : ℕ) (text : SessionChannels) → text_at slots n ≡ Some text → has text

-- a next key session may begin: its memory is there, and a place in the slots
pub record MayBegin {W : Type 0} (s : SessionState W) : Type 0 where
  pub blank : is_some s.blank ≡ true
  pub place : 1 ≤ room s.slots

-- the memory of a next one has room for a payload of so many bytes
abbrev pub BlankTakes : ℕ → Option SessionBlank → Type 0
BlankTakes payload None = ⊥
BlankTakes payload (Some b) = payload ≤ blank_room b

-- a text has room for a payload of so many bytes, and so many bytes are enough for what it puts to the engine and sends
pub record TakesPacket (payload bytes : ℕ) (text : SessionChannels) : Type 0 where
  pub payload_fits : payload ≤ payload_room text
  pub bytes_fit : 7200 + 12 * max (longest text) payload ≤ bytes

-- a control packet of so many bytes or less may come: a connection is opened, at most 12 payloads are put to the engine, and at most 6
-- datagrams sent
pub record TakesControl {W : Type 0} (s : SessionState W) (payload effects bytes : ℕ) : Type 0 where
  pub next : MayBegin s
  pub next_fits : BlankTakes payload s.blank
  pub texts : EachText (TakesPacket payload bytes) s.slots
  pub effects_fit : 19 ≤ effects
  pub bytes_fit : 7200 + 12 * payload ≤ bytes
  pub bytes_count : bytes < 2 ^ 64

-- text of so many bytes for the other end may come: at most 6 datagrams are sent, before the key exchange
pub record TakesText {W : Type 0} (s : SessionState W) (text effects bytes : ℕ) : Type 0 where
  pub texts : EachText (λ t. piece_count text ≤ text_room t) s.slots
  pub effects_fit : 8 ≤ effects
  pub bytes_fit : 7293 ≤ bytes

-- plain text of so many bytes may come, before the key exchange
abbrev pub TakesPlain : {W : Type 0} → SessionState W → ℕ → Type 0
TakesPlain s plain = EachText (λ t. plain ≤ plain_room t) s.slots

-- time may pass: in three open sessions and a new one at most 6 datagrams are sent, a connection is opened and one closed
pub record TakesTick {W : Type 0} (s : SessionState W) (effects bytes : ℕ) : Type 0 where
  pub next : MayBegin s
  pub effects_fit : 26 ≤ effects
  pub bytes_fit : 28800 ≤ bytes

-- what the event itself takes
abbrev pub TakesKind : {W : Type 0} → SessionState W → Kind → ℕ → ℕ → Type 0
TakesKind s (Datagram from datagram) effects bytes = TakesControl s (length datagram) effects bytes
TakesKind s (EngineText conn text) effects bytes = TakesText s (length text) effects bytes
TakesKind s (EnginePlain conn text) effects bytes = TakesPlain s (length text)
TakesKind s Tick effects bytes = TakesTick s effects bytes
TakesKind s kind effects bytes = Unit {0}

-- the event's own, and a key exchange: the server's message is written, and one connection closed
pub record IsReadyFor {W : Type 0} (s : SessionState W) (kind : Kind) (effects bytes : ℕ) : Type 0 where
  pub own : TakesKind s kind effects bytes
  pub exchange_effects : 2 ≤ effects
  pub exchange_bytes : 93 ≤ bytes

-- the same as one word
unfoldable pub IsReady : {W : Type 0} → SessionState W → Kind → ℕ → ℕ → Type 0
IsReady s kind effects bytes = IsReadyFor s kind effects bytes
