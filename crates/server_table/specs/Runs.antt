-- Runs of the server: events one after the other, of which some may find no memory.
use Rattle.std.specs.Prelude.{◌||◌, Bool, true, false, List, [], ◌∷◌, Result, Ok, IsTrue, IsFalse}
use Rattle.std.specs.List.{list_any}
use Rattle.vpn_base.specs.declared.names.Malformed.{Malformed}
use Rattle.vpn_links.specs.Actions.{Action, Report}
use Rattle.vpn_links.specs.declared.events.Event.{Event}
use Rattle.vpn_links.specs.declared.events.Kind.{Kind}
use Rattle.vpn_links.specs.declared.events.Kind.TheVariants.{Datagram, DeviceIn, DeviceReady, Halt}
use Rattle.vpn_links.specs.Steps.{Lack, LacksAll, LacksHost, LacksNothing}
use Rattle.vpn_links.specs.declared.notes.Note.{Note}
use Rattle.vpn_links.specs.declared.notes.Note.TheVariants as notes
use Rattle.opcode_codec.specs.Packet.{PacketForm, Inner, packet_of}
use Rattle.server_table.specs.Table.{Table}
use Rattle.server_table.specs.Courses.{outs}
use Rattle.server_table.specs.Step.{is_over, step}

-- an event, and what lacks at it
abbrev pub Entry : Type 0
Entry = Event × Lack

-- the table after an event: one that lacks as a whole changes nothing
abbrev pub after_lacking : Table → Event → Lack → Table
after_lacking t event LacksNothing = (step false t event).table
after_lacking t event LacksAll = t
after_lacking t event LacksHost = (step true t event).table

-- the same for an entry of a run
abbrev pub after : Table → Entry → Table
after t entry = after_lacking t entry.0 entry.1

-- what an event does: one that lacks as a whole is reported
abbrev pub outs_lacking : Table → Event → Lack → List Action
outs_lacking t event LacksNothing = outs (step false t event)
outs_lacking t event LacksAll = Report notes.NoMemory ∷ []
outs_lacking t event LacksHost = outs (step true t event)

-- the same for an entry of a run
abbrev pub outs_at : Table → Entry → List Action
outs_at t entry = outs_lacking t entry.0 entry.1

-- the table after these entries
abbrev pub after_all : Table → List Entry → Table
after_all t [] = t
after_all t (entry ∷ entries) = after_all (after t entry) entries

-- what each of these entries does
abbrev pub run : Table → List Entry → List (List Action)
run t [] = []
run t (entry ∷ entries) = outs_at t entry ∷ run (after t entry) entries

-- ---- which events may lack

-- whether a datagram is a data packet
abbrev pub is_free_packet : Result PacketForm Malformed → Bool
is_free_packet (Ok (Inner f)) = true
is_free_packet _ = false

-- events that take no memory, by their kind: a data packet, a packet of the device, a device that is ready, the end
abbrev pub is_free_kind : Kind → Bool
is_free_kind (Datagram from bytes) = is_free_packet (packet_of bytes)
is_free_kind (DeviceIn bytes) = true
is_free_kind DeviceReady = true
is_free_kind Halt = true
is_free_kind _ = false

-- a note of an event that was refused before anything was done
abbrev pub is_early_note : Note → Bool
is_early_note (notes.Malformed kind first) = true
is_early_note notes.NotWrapped = true
is_early_note (notes.UnknownSession sid) = true
is_early_note (notes.Full most) = true
is_early_note (notes.UnknownConn conn) = true
is_early_note (notes.Unasked id) = true
is_early_note _ = false

-- such a note alone
abbrev pub is_refusal : List Action → Bool
is_refusal (Report note ∷ []) = is_early_note note
is_refusal _ = false

-- whether an event takes no memory: by its kind, because it is refused so, or because the server takes no events any more
unfoldable pub is_free : Table → Event → Bool
is_free t event = is_over t || is_free_kind event.kind || is_refusal (outs (step false t event))

-- the report that a host was not learned
abbrev pub is_not_learned : Action → Bool
is_not_learned (Report (notes.NotLearned id host)) = true
is_not_learned _ = false

-- whether an event would have the server learn a host that it has not learned: without memory for it that is reported
unfoldable pub needs_host : Table → Event → Bool
needs_host t event = list_any is_not_learned (outs (step true t event))

-- what may lack at an event: nothing always, all of it where it is not free of memory, the host where one is to be learned
abbrev pub MayLack : Table → Event → Lack → Type 0
MayLack t event LacksNothing = Unit {0}
MayLack t event LacksAll = IsFalse (is_free t event)
MayLack t event LacksHost = IsTrue (needs_host t event)

-- at each entry of a run lacks what may
abbrev pub MayRun : Table → List Entry → Type 0
MayRun t [] = Unit {0}
MayRun t (entry ∷ entries) = MayLack t entry.0 entry.1 × MayRun (after t entry) entries
