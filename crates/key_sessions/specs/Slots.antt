-- The slots of one client's key sessions, and the lists of all its key sessions for which they stand.
use Rattle.std.specs.Prelude.{◌≡◌, ◌≢◌, ◌≤◌, ◌<◌, ℕ, ◌-◌, Bool, true, false, List, [], ◌∷◌, ◌++◌, length, Option, Some, None, slice_get, is_some, vec_len, vec_capacity}
use Rattle.peer_table.specs.KeySessions.{Session, newest_usable}
use Rattle.peer_table.specs.KeySessions as sessions
use Rattle.peer_table.specs.Orderly.{IsOrderly}
use Rattle.key_sessions.specs.declared.slot.Slot.{Slot}
use Rattle.key_sessions.specs.declared.slot.SlotStage.{SlotStage}
use Rattle.key_sessions.specs.declared.slot.SlotStage.TheVariants.{Opening, Named, Keyed, Closed}
use Rattle.key_sessions.specs.declared.slot.Stage.{Stage}
use Rattle.key_sessions.specs.declared.slot.Stage.TheVariants as stages
use Rattle.key_sessions.specs.declared.slots.Slots.{Slots}
use Rattle.key_sessions.specs.Sessions.{IsKeyed}

-- ---- one slot

-- whether a slot's session is open
abbrev pub is_open_stage : SlotStage → Bool
is_open_stage (Closed cipher) = false
is_open_stage stage = true

-- whether it is open and has keys
abbrev pub is_keyed_stage : SlotStage → Bool
is_keyed_stage (Keyed k) = true
is_keyed_stage stage = false

-- the stage of a slot is that of a session; of one that is closed no more is kept than the cipher of its keys
abbrev pub IsStage : SlotStage → sessions.Stage → Type 0
IsStage (Opening k) sessions.Opening = Unit {0}
IsStage (Named k) sessions.Named = Unit {0}
IsStage (Keyed k) stage = IsKeyed k stage
IsStage (Closed cipher) (sessions.Keyed keys) = cipher ≡ keys.cipher
IsStage _ _ = ⊥

-- a text that is there stands for the session
abbrev pub StandsIfThere : {T : Type 0} → (T → Session → Type 0) → Option T → Session → Type 0
StandsIfThere stands_for None s = Unit {0}
StandsIfThere stands_for (Some text) s = stands_for text s

-- a slot stands for a session
pub record SlotStands {T : Type 0} (stands_for : T → Session → Type 0) (slot : Slot T) (s : Session) : Type 0 where
  pub conn : slot.conn ≡ s.link.conn
  pub began : slot.began.0 ≡ s.began
  pub is_open : is_open_stage slot.stage ≡ s.is_open
  pub stage : IsStage slot.stage s.stage
  pub text : StandsIfThere stands_for slot.text s

-- each of these slots stands for the session at its place
abbrev pub EachStands : {T : Type 0} → (T → Session → Type 0) → List (Slot T) → List Session → Type 0
EachStands stands_for [] [] = Unit {0}
EachStands stands_for (slot ∷ slots) (s ∷ ss) = SlotStands stands_for slot s × EachStands stands_for slots ss
EachStands stands_for [] (s ∷ ss) = ⊥
EachStands stands_for (slot ∷ slots) [] = ⊥

-- ---- all slots

-- all slots, in the order of the numbers of their sessions
abbrev pub all_slots : {T : Type 0} → Slots T → List (Slot T)
all_slots slots = slots.earlier.items ++ slots.newest ∷ []

-- the last session with keys is open
abbrev pub LastIsOpen : List Session → Type 0
LastIsOpen ss = (n : ℕ) (s : Session) → newest_usable ss ≡ Some n → slice_get ss n ≡ Some s → s.is_open ≡ true

-- each slot stands for its session, the sessions are orderly, and the one that seals is open
pub record AreSlotsOf {T : Type 0} (stands_for : T → Session → Type 0) (slots : Slots T) (ss : List Session) : Type 0 where
  pub each : EachStands stands_for (all_slots slots) ss
  pub orderly : IsOrderly ss
  pub sealing : LastIsOpen ss

-- the same as one word, which callers do not look into
unfoldable pub SlotsStand : {T : Type 0} → (T → Session → Type 0) → Slots T → List Session → Type 0
SlotsStand stands_for slots ss = AreSlotsOf stands_for slots ss

-- ---- what the calls require of a value

-- how far the newest session has come
abbrev pub stage_seen : SlotStage → Stage
stage_seen (Opening k) = stages.Opening
stage_seen (Named k) = stages.Named
stage_seen (Keyed k) = stages.Keyed
stage_seen (Closed cipher) = stages.Keyed

unfoldable pub newest_stage : {T : Type 0} → Slots T → Stage
newest_stage slots = stage_seen slots.newest.stage

-- the name of the newest session, as it is kept
abbrev pub name_of : SlotStage → Option (List ℕ)
name_of (Opening k) = None
name_of (Named k) = Some k.name
name_of (Keyed k) = Some k.name
name_of (Closed cipher) = None

unfoldable pub newest_name : {T : Type 0} → Slots T → Option (List ℕ)
newest_name slots = name_of slots.newest.stage

-- the number of the newest session
unfoldable pub newest_number : {T : Type 0} → Slots T → ℕ
newest_number slots = length slots.earlier.items

-- for how many more sessions there is room
unfoldable pub room : {T : Type 0} → Slots T → ℕ
room slots = vec_capacity slots.earlier - vec_len slots.earlier

-- a text is there exactly where the session is open
abbrev pub HasText : {T : Type 0} → Bool → Option T → Type 0
HasText is_open text = is_some text ≡ is_open

-- so it is in a slot, if there is one
abbrev pub HasTextAt : {T : Type 0} → Option (Slot T) → Type 0
HasTextAt None = Unit {0}
HasTextAt (Some slot) = HasText (is_open_stage slot.stage) slot.text

-- the text in a slot, if there is one
abbrev pub text_in : {T : Type 0} → Option (Slot T) → Option T
text_in None = None
text_in (Some slot) = slot.text

-- the text of the session of this number, while it is open and not out
unfoldable pub text_at : {T : Type 0} → Slots T → ℕ → Option T
text_at slots number = text_in (slice_get (all_slots slots) number)

-- no text is there from one number on and below another
abbrev pub NoText : {T : Type 0} → Slots T → ℕ → ℕ → Type 0
NoText slots from to = (n : ℕ) → from ≤ n → n < to → text_at slots n ≡ None

-- no text is out
unfoldable pub IsWhole : {T : Type 0} → Slots T → Type 0
IsWhole slots = (n : ℕ) → HasTextAt (slice_get (all_slots slots) n)

-- the text of the open session of this number may be out, and no other
unfoldable pub IsWholeBut : {T : Type 0} → ℕ → Slots T → Type 0
IsWholeBut number slots = (n : ℕ) → n ≢ number → HasTextAt (slice_get (all_slots slots) n)
