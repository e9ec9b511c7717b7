-- The numbers of the last sessions with keys, where all but the newest have keys.
use Rattle.std.specs.Prelude.{ℕ, zero, suc, ◌&&◌, ◌==◌, Bool, true, false, Option, Some, None}
use Rattle.peer_table.specs.EngineAnswers.{is_on}
use Rattle.peer_table.specs.Exchange.{is_open_keyed}
use Rattle.peer_table.specs.KeySessions.{Session, is_open}
use Rattle.key_sessions.specs.declared.slot.Slot.{Slot}
use Rattle.key_sessions.specs.declared.slot.Which.{Which}
use Rattle.key_sessions.specs.declared.slot.Which.TheVariants as which
use Rattle.key_sessions.specs.Slots.{is_keyed_stage, is_open_stage}
use Rattle.key_sessions.specs.declared.slot.SlotStage.{SlotStage}
use Rattle.key_sessions.specs.declared.slot.SlotStage.TheVariants.{Opening, Named, Keyed, Closed}

-- whether the session of a slot has keys, or had them
abbrev pub had_keys : SlotStage → Bool
had_keys (Opening k) = false
had_keys (Named k) = false
had_keys (Keyed k) = true
had_keys (Closed cipher) = true

-- the number before
abbrev pub number_before : ℕ → Option ℕ
number_before zero = None
number_before (suc n) = Some n

-- the number before one that may be there
abbrev pub number_before_that : Option ℕ → Option ℕ
number_before_that None = None
number_before_that (Some n) = number_before n

-- a number, or the one before
abbrev pub number_if : Bool → ℕ → Option ℕ
number_if true n = Some n
number_if false n = number_before n

-- ---- which sessions are looked for

-- whether a slot is looked for
abbrev pub picks : {T : Type 0} → Which → Slot T → Bool
picks which.Open slot = is_open_stage slot.stage
picks which.OpenKeyed slot = is_keyed_stage slot.stage
picks (which.On conn) slot = is_open_stage slot.stage && (slot.conn.0 == conn.0)

-- the same of a session
abbrev pub chooses : Which → Session → Bool
chooses which.Open s = is_open s
chooses which.OpenKeyed s = is_open_keyed s
chooses (which.On conn) s = is_on conn s

-- the same of a slot that may be there
abbrev pub picks_at : {T : Type 0} → Which → Option (Slot T) → Bool
picks_at w None = false
picks_at w (Some slot) = picks w slot

-- one that is looked for counts down how many are passed before the one that is wanted; none is left to be passed at that one
abbrev pub counted_down : Bool → ℕ → Option ℕ
counted_down true zero = None
counted_down true (suc left) = Some left
counted_down false left = Some left
