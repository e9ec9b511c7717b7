-- One step of the server: an event comes.
use Rattle.std.specs.Prelude.{ℕ, ◌+◌, ◌^◌, ◌||◌, nat_le, nat_lt, max, min, Bool, true, false, List, [], ◌∷◌, length, codes, None, Result, Ok, Err}
use Rattle.vpn_base.specs.declared.names.Draw.{Draw}
use Rattle.vpn_base.specs.declared.names.Malformed.{Malformed}
use Rattle.vpn_links.specs.Actions.{Say, Stop}
use Rattle.vpn_links.specs.declared.events.Event.{Event}
use Rattle.vpn_links.specs.declared.events.Kind.{Kind}
use Rattle.vpn_links.specs.declared.events.Kind.TheVariants.{Datagram, EngineText, EnginePlain, EngineUp, EngineDown, DeviceIn, DeviceReady, File, Line, Tick, Halt}
use Rattle.vpn_links.specs.declared.notes.Note.TheVariants as notes
use Rattle.opcode_codec.specs.Packet.{PacketForm, Wrapped, Inner, packet_of}
use Rattle.inner_verdict.specs.declared.Verdict.{Verdict}
use Rattle.inner_verdict.specs.declared.Verdict.TheVariants.{NotIp, TooLong, Multicast, BadSource, ToClient, ToDevice, NoRoute}
use Rattle.inner_verdict.specs.Verdict.{verdict}
use Rattle.server_table.specs.Table.{Table}
use Rattle.server_table.specs.Courses.{Course, did, reported}
use Rattle.server_table.specs.InnerPackets.{device_ready, sealed_to}
use Rattle.server_table.specs.DataDatagrams.{FromWire, data_came}
use Rattle.server_table.specs.ControlDatagrams.{control_arrived, first_of}
use Rattle.server_table.specs.Engine.{engine_answered, engine_is_down, file_came}
use Rattle.server_table.specs.Time.{tick}

-- ---- a datagram

-- by what packet it is
abbrev pub datagram_as : FromWire → Draw → Course → Result PacketForm Malformed → Course
datagram_as d draw c (Err e) = reported (notes.Malformed e (first_of d.bytes)) c
datagram_as d draw c (Ok (Wrapped op kid sid)) = control_arrived d draw op c
datagram_as d draw c (Ok (Inner f)) = data_came d f c

-- ---- the packet device

-- by the verdict on a packet of the device: its source may be any, and what no client owns has no route
abbrev pub device_passed : List ℕ → Course → Verdict → Course
device_passed inner c NotIp = reported (notes.NotIp None) c
device_passed inner c TooLong = reported (notes.TooLong None) c
device_passed inner c Multicast = reported (notes.Multicast None) c
device_passed inner c (BadSource owner) = c
device_passed inner c (ToClient target) = sealed_to target.0 inner c
device_passed inner c ToDevice = c
device_passed inner c NoRoute = reported notes.NoRoute c

-- an inner packet of the device
unfoldable pub device_came : List ℕ → Course → Course
device_came inner c = device_passed inner c (verdict c.table.routes.rows c.table.settings.net c.table.settings.between None inner)

-- ---- the management interface, of which these three cases are built

-- a line that is not empty: whether it is too long
abbrev pub line_said : Course → Bool → Course
line_said c true = did (Say (codes "ERROR: command too long")) c
line_said c false = did (Say (codes "ERROR: unknown command")) c

-- a line of the management interface
abbrev pub line_came : List ℕ → Course → Course
line_came [] c = c
line_came (b ∷ bytes) c = line_said c (nat_lt 256 (length (b ∷ bytes)))

-- ---- the end

-- the server stops
abbrev pub halted : Course → Course
halted c = did Stop (record c { table = record c.table { is_stopped = true } })

-- ---- every kind of event

-- what comes; `lacks` says that there is no memory to learn a host
unfoldable pub came : Bool → Draw → Kind → Course → Course
came lacks draw (Datagram from bytes) c = datagram_as (record { from = from; bytes = bytes; lacks = lacks }) draw c (packet_of bytes)
came lacks draw (EngineText conn bytes) c = engine_answered draw conn (EngineText conn bytes) c
came lacks draw (EnginePlain conn bytes) c = engine_answered draw conn (EnginePlain conn bytes) c
came lacks draw (EngineUp conn name) c = engine_answered draw conn (EngineUp conn name) c
came lacks draw (EngineDown conn) c = engine_is_down conn c
came lacks draw (DeviceIn bytes) c = device_came bytes c
came lacks draw DeviceReady c = device_ready c
came lacks draw (File id answer) c = file_came draw id answer c
came lacks draw (Line bytes) c = line_came bytes c
came lacks draw Tick c = tick c
came lacks draw Halt c = halted c

-- ---- one step

-- no event is taken once the server was stopped, nor after 2^48 of them
abbrev pub is_over : Table → Bool
is_over t = t.is_stopped || nat_le (2 ^ 48) t.events

-- the moment of a step: the event's, or that of the step before where it is later, and at most 2^52
abbrev pub moment_of : Table → Event → ℕ
moment_of t event = min (max t.moment event.now.0) (2 ^ 52)

-- a step begins: the moment is set, the event counted, and no datagram has gone anywhere
abbrev pub course_begun : Table → Event → Course
course_begun t event = record {
  table = record t { moment = moment_of t event; events = t.events + 1; last_taken = None };
  effects = [];
  staged = [];
}

-- nothing is done
abbrev pub course_of : Table → Course
course_of t = record { table = t; effects = []; staged = [] }

-- where the server takes events still
abbrev pub step_if : Bool → Table → Event → Bool → Course
step_if lacks t event true = course_of t
step_if lacks t event false = came lacks event.draw event.kind (course_begun t event)

-- the server takes an event
unfoldable pub step : Bool → Table → Event → Course
step lacks t event = step_if lacks t event (is_over t)
