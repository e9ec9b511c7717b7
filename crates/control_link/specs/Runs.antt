-- Whole runs of a control link: events one after the other, and what is read after each.
use Rattle.std.specs.Prelude.{ℕ, List, [], ◌∷◌, ◌++◌, Option, Some, None, Result, Ok, Err}
use Rattle.std.specs.Option.{option_or}
use Rattle.std.specs.List.{concat, filter_map}
use Rattle.vpn_base.specs.declared.names.Malformed.{Malformed}
use Rattle.vpn_base.specs.declared.names.Moment.{Moment}
use Rattle.vpn_base.specs.declared.names.Sid.{Sid}
use Rattle.opcode_codec.specs.ControlText.{ControlForm, control_of}
use Rattle.reliable_recv.specs.Receiving.{Arrival}
use Rattle.tls_crypt.specs.Packets.{Wrapping}
use Rattle.control_link.specs.declared.link.LinkEnd.{LinkEnd}
use Rattle.control_link.specs.declared.runs.LinkEvent.{LinkEvent}
use Rattle.control_link.specs.declared.runs.LinkSetup.{LinkSetup}
use Rattle.control_link.specs.declared.runs.LinkEvent.TheVariants.{Say, Packet, Tick}
use Rattle.control_link.specs.Envelope.{EnvelopeHistory, envelope_begun}
use Rattle.control_link.specs.Links.{Link, link_begun}
use Rattle.control_link.specs.Calls.{Outcome, received, said, ticked, unchanged}
use Rattle.control_link.specs.Reading.{read_here, texts_here}

-- an event, and its moment
abbrev pub EventAt : Type 0
EventAt = LinkEvent × Moment

-- ---- one event

-- a packet has come; bytes that are no plain text of a control packet change nothing
abbrev pub packet_comes : Link → EnvelopeHistory → Result ControlForm Malformed → Sid → ℕ → Outcome
packet_comes l h (Ok v) remote now = received l h v remote now
packet_comes l h (Err e) remote now = unchanged l h None

-- an event has come
abbrev pub event_comes : Link → EnvelopeHistory → LinkEvent → Sid → ℕ → Outcome
event_comes l h (Say bytes) remote now = said l h bytes remote now
event_comes l h (Packet op plain) remote now = packet_comes l h (control_of op plain) remote now
event_comes l h Tick remote now = ticked l h remote now

-- ---- runs

-- how far a run has come: the link and the envelope, the control datagrams that were staged and the text that was read so far, and the first end, if there was one
pub record Course : Type 0 where
  pub link : Link
  pub envelope : EnvelopeHistory
  pub datagrams : List (List ℕ)
  pub text : List ℕ
  pub end : Option LinkEnd

-- nothing has come yet
abbrev pub course_begun : Link → EnvelopeHistory → Course
course_begun l h = record { link = l; envelope = h; datagrams = []; text = []; end = None }

-- after what came of an event, and after the payloads of the text were read that are here: there are no more than 12
abbrev pub course_after : Course → Outcome → Course
course_after c o = record {
  link = read_here 12 o.link;
  envelope = o.envelope;
  datagrams = c.datagrams ++ o.datagrams;
  text = c.text ++ concat (texts_here 12 o.link);
  end = option_or c.end o.end;
}

-- after one event
unfoldable pub after_event : Sid → Course → EventAt → Course
after_event remote c e = course_after c (event_comes c.link c.envelope e.0 remote e.1.0)

-- after all of these events
abbrev pub after_events : Sid → Course → List EventAt → Course
after_events remote c [] = c
after_events remote c (e ∷ events) = after_events remote (after_event remote c e) events

-- the course of these events over a fresh link and envelope, where after each event every payload of the text is read that is here
unfoldable pub course_of : Wrapping → LinkSetup → List EventAt → Course
course_of wraps setup events =
    after_events setup.remote
    (course_begun (link_begun setup.conn setup.kid setup.first setup.timeout_secs) (envelope_begun wraps setup.own setup.time 1 0)) events

-- the id and the payload of a packet that has an id
abbrev pub arrival_if : Option ℕ → List ℕ → Option Arrival
arrival_if None payload = None
arrival_if (Some id) payload = Some (id, payload)

-- what a packet brings: bytes that are no plain text of a control packet bring nothing
abbrev pub brought_by : Result ControlForm Malformed → Option Arrival
brought_by (Ok v) = arrival_if v.id v.payload
brought_by (Err e) = None

-- what an event brings
abbrev pub brought : LinkEvent → Option Arrival
brought (Packet op plain) = brought_by (control_of op plain)
brought (Say bytes) = None
brought Tick = None

-- the packets with a packet id that come in a run, in order
abbrev pub arrivals_in : List EventAt → List Arrival
arrivals_in events = filter_map (λ (e : EventAt). brought e.0) events
