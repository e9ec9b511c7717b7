-- One change of one slot.
use Rattle.std.specs.Prelude.{Bool, true, false, Option, Some, None}
use Rattle.key_sessions.specs.Slots.{is_open_stage}
use Rattle.vpn_base.specs.declared.names.Cipher.{Cipher}
use Rattle.hmac_kit.specs.declared.derivation.KeyBlock.{KeyBlock}
use Rattle.key_sessions.specs.declared.slot.Slot.{Slot}
use Rattle.key_sessions.specs.declared.slot.SlotStage.{SlotStage}
use Rattle.key_sessions.specs.declared.slot.SlotStage.TheVariants.{Named, Keyed, Closed}
use Rattle.key_sessions.specs.declared.slot.Change.{Change}
use Rattle.key_sessions.specs.declared.slot.Change.TheVariants.{Take, Put, Close}

-- a slot whose session is closed where it has keys: of these the cipher is kept
abbrev pub closed_slot : {T : Type 0} → Slot T → SlotStage → Slot T
closed_slot slot (Keyed k) = record slot { text = None; stage = Closed k.cipher }
closed_slot slot stage = slot

-- the text that it gives up then
abbrev pub closed_text : {T : Type 0} → Slot T → SlotStage → Option T
closed_text slot (Keyed k) = slot.text
closed_text slot stage = None

-- a text that is put where the session is open
abbrev pub text_if : {T : Type 0} → T → Bool → Option T
text_if text true = Some text
text_if text false = None

-- the slot after a change
abbrev pub applied : {T : Type 0} → Change T → Slot T → Slot T
applied Take slot = record slot { text = None }
applied (Put text conn) slot = record slot { text = text_if text (is_open_stage slot.stage); conn = conn }
applied Close slot = closed_slot slot slot.stage

-- the text that a change gives
abbrev pub given : {T : Type 0} → Change T → Slot T → Option T
given Take slot = slot.text
given (Put text conn) slot = slot.text
given Close slot = closed_text slot slot.stage

-- the same, if there is a slot
abbrev pub given_at : {T : Type 0} → Change T → Option (Slot T) → Option T
given_at change None = None
given_at change (Some slot) = given change slot

-- the stage of a session with a name, once it has keys
abbrev pub keyed_stage : KeyBlock → Cipher → SlotStage → SlotStage
keyed_stage keys cipher (Named k) = Keyed (record { name = k.name; keys = keys; cipher = cipher })
keyed_stage keys cipher stage = stage
