-- Whole runs of a client's session: events one after the other, and what each comes to.
use Rattle.std.specs.Prelude.{ℕ, nat_lt, max, is_ok, Bool, true, false, List, [], ◌∷◌, ◌++◌, length, Option, Some, None, Result, Ok, Err}
use Rattle.vpn_base.specs.declared.address.Addr.{Addr}
use Rattle.vpn_base.specs.declared.names.Conn.{Conn}
use Rattle.vpn_base.specs.declared.names.Draw.{Draw}
use Rattle.vpn_base.specs.declared.names.Malformed.{Malformed}
use Rattle.vpn_base.specs.declared.names.Moment.{Moment}
use Rattle.vpn_base.specs.declared.names.Policy.{Policy}
use Rattle.vpn_base.specs.declared.names.Role.TheVariants.{Server}
use Rattle.vpn_links.specs.Actions.{Action, Datagram}
use Rattle.opcode_codec.specs.ControlText.{ControlForm, control_of}
use Rattle.opcode_codec.specs.Packet.{Inner, PacketForm, Wrapped, packet_of}
use Rattle.opcode_codec.specs.declared.opcodes.Opcode.{Opcode}
use Rattle.packet_ids.specs.declared.sending.Spent.{Spent}
use Rattle.tls_crypt.specs.Packets.{Packet, Wrapping}
use Rattle.tls_crypt.specs.Unwrapping.{unwrapping}
use Rattle.tls_crypt.specs.Wrapped.{half, keys_of, read_half, wrapped, written_half}
use Rattle.control_link.specs.Calls.{datagrams_to}
use Rattle.peer_table.specs.ControlPackets.{control_came}
use Rattle.peer_table.specs.DataPackets.{data_came, sealed_to}
use Rattle.peer_table.specs.EngineAnswers.{engine_came}
use Rattle.peer_table.specs.Exchange.{after_message, exchanged, next_message}
use Rattle.peer_table.specs.Outboxes.{actions_of, wired}
use Rattle.peer_table.specs.Peer.{Outcome, Peer, began}
use Rattle.peer_table.specs.Time.{ticked, ticking}
use Rattle.peer_table.specs.declared.outcomes.Refused.{Refused}
use Rattle.peer_table.specs.declared.outcomes.SessionFault.{SessionFault}
use Rattle.peer_table.specs.declared.outcomes.Turn.{Turn}
use Rattle.peer_table.specs.declared.outcomes.Turn.TheVariants.{Over}
use Rattle.session_runs.specs.declared.runs.SessionAnswer.{SessionAnswer}
use Rattle.session_runs.specs.declared.runs.SessionAnswer.TheVariants as answers
use Rattle.session_runs.specs.declared.runs.SessionEvent.{SessionEvent}
use Rattle.session_runs.specs.declared.runs.SessionEvent.TheVariants as events
use Rattle.session_runs.specs.declared.runs.SessionSetup.{SessionSetup}

-- a moment, and what comes then
abbrev pub EventAt : Type 0
EventAt = Moment × SessionEvent

-- what came of an event: the client after it, what was done to the outside, the datagrams that were staged, and the answer
pub record Coming : Type 0 where
  pub peer : Peer
  pub effects : List Action
  pub staged : List Datagram
  pub answer : SessionAnswer

-- nothing was done to the outside
abbrev pub quiet : Peer → SessionAnswer → Coming
quiet p answer = record { peer = p; effects = []; staged = []; answer = answer }

-- what came of a call, whose answer is told so; its datagrams go to this address
abbrev pub called : {A : Type 0} → Addr → (A → SessionAnswer) → Outcome A → Coming
called to told o = record {
  peer = o.peer;
  effects = actions_of o.peer.role o.doings;
  staged = datagrams_to to o.datagrams;
  answer = told o.answer;
}

-- ---- control packets

-- what the session answers to one
abbrev pub taking_told : Result Turn Refused → SessionAnswer
taking_told (Ok turn) = answers.Turn turn
taking_told (Err refused) = answers.Refused refused

-- it was unwrapped: its plain text is read, or is none of its opcode
abbrev pub control_read : Addr → Conn → Bool → Moment → Peer → Packet → Result ControlForm Malformed → Coming
control_read to next_conn established now p packet (Ok form) = called to taking_told
    (control_came p (record { packet = packet; form = form; moment = now; next_conn = next_conn; established = established }))
control_read to next_conn established now p packet (Err fault) = quiet p answers.Nothing

-- whether the client has wrapped it
abbrev pub control_unwrapped : Addr → Conn → Bool → Moment → Peer → Opcode → Option Packet → Coming
control_unwrapped to next_conn established now p op (Some packet) =
    control_read to next_conn established now p packet (control_of op packet.plain)
control_unwrapped to next_conn established now p op None = quiet p answers.Nothing

-- whether the datagram is that of a control packet, where clients wrap so
abbrev pub control_seen : Wrapping → Addr → Conn → Bool → Moment → Peer → List ℕ → Result PacketForm Malformed → Coming
control_seen wraps to next_conn established now p datagram (Ok (Wrapped op kid sid)) =
    control_unwrapped to next_conn established now p op (unwrapping wraps datagram)
control_seen wraps to next_conn established now p datagram (Ok (Inner form)) = quiet p answers.Nothing
control_seen wraps to next_conn established now p datagram (Err fault) = quiet p answers.Nothing

-- ---- all others

-- a key exchange; no peer id has more than 24 bits
abbrev pub exchange_if : Bool → Addr → Policy → ℕ → Draw → Peer → Coming
exchange_if true to policy peer_id draw p = quiet p answers.Nothing
exchange_if false to policy peer_id draw p = called to answers.Turn (exchanged policy peer_id draw p)

-- the next message, if one waits
abbrev pub message_told : Option (Conn × List ℕ) → SessionAnswer
message_told None = answers.NoMessage
message_told (Some message) = answers.Message message.1

-- what was sealed goes to this address, before all that is staged
abbrev pub sealing_told : Bool → SessionAnswer
sealing_told true = answers.Sealed
sealing_told false = answers.Spent

abbrev pub sealing : Addr → Outcome (Result (List ℕ) Spent) → Coming
sealing to o = record { peer = o.peer; effects = wired to o.answer; staged = []; answer = sealing_told (is_ok o.answer) }

-- inner packets have at most 1,500 bytes
abbrev pub seal_if : Bool → Addr → List ℕ → Peer → Coming
seal_if true to inner p = quiet p answers.Nothing
seal_if false to inner p = sealing to (sealed_to inner p)

-- what a data packet opens to
abbrev pub opening_told : Result (List ℕ) SessionFault → SessionAnswer
opening_told (Ok inner) = answers.Inner inner
opening_told (Err fault) = answers.Fault fault

-- data packets have at most 65,536 bytes
abbrev pub unseal_if : Bool → List ℕ → Moment → Peer → Coming
unseal_if true datagram now p = quiet p answers.Nothing
unseal_if false datagram now p = quiet (data_came datagram now p).peer (opening_told (data_came datagram now p).answer)

-- an event comes to a client, whose datagrams go to this address; those in answer to a control packet go to its own
abbrev pub event_comes : Wrapping → Addr → Peer → Moment → SessionEvent → Coming
event_comes wraps to p now (events.Control from datagram next_conn established) =
    control_seen wraps from next_conn established now p datagram (packet_of datagram)
event_comes wraps to p now (events.Engine kind) = called to answers.Turn (engine_came kind now.0 p)
event_comes wraps to p now (events.Exchange policy peer_id draw) = exchange_if (nat_lt 16777215 peer_id) to policy peer_id draw p
event_comes wraps to p now events.Message = quiet (after_message p) (message_told (next_message p))
event_comes wraps to p now (events.Tick next_conn established idle) = called to answers.Turn (ticked (ticking now.0 next_conn established idle) p)
event_comes wraps to p now (events.Seal inner) = seal_if (nat_lt 1500 (length inner)) to inner p
event_comes wraps to p now (events.Unseal datagram) = unseal_if (nat_lt 65536 (length datagram)) datagram now p

-- ---- runs

-- how far a run has come: the client, the latest moment, whether a turn was over, and all answers, effects and datagrams so far
pub record Course : Type 0 where
  pub peer : Peer
  pub latest : Moment
  pub is_over : Bool
  pub answers : List SessionAnswer
  pub effects : List Action
  pub staged : List Datagram

-- whether a run ends with this answer
abbrev pub ends : SessionAnswer → Bool
ends (answers.Turn (Over cause)) = true
ends answer = false

-- a moment, which is not before the latest
abbrev pub no_earlier : Moment → Moment → Moment
no_earlier latest now = record { 0 = max latest.0 now.0 }

-- what came of an event at this moment stands behind all else
abbrev pub course_with : Course → Moment → Coming → Course
course_with c now o = record {
  peer = o.peer;
  latest = now;
  is_over = ends o.answer;
  answers = c.answers ++ o.answer ∷ [];
  effects = c.effects ++ o.effects;
  staged = c.staged ++ o.staged;
}

-- an event behind the end is not taken
abbrev pub after_event_if : Bool → Wrapping → Addr → Course → EventAt → Course
after_event_if true wraps to c e = c
after_event_if false wraps to c e =
    course_with c (no_earlier c.latest e.0) (event_comes wraps to c.peer (no_earlier c.latest e.0) e.1)

-- after one event
unfoldable pub after_event : Wrapping → Addr → Course → EventAt → Course
after_event wraps to c e = after_event_if c.is_over wraps to c e

-- after all of these events
abbrev pub after_events : Wrapping → Addr → Course → List EventAt → Course
after_events wraps to c [] = c
after_events wraps to c (e ∷ events) = after_events wraps to (after_event wraps to c e) events

-- the session of a server with this static key has begun
unfoldable pub course_begun : SessionSetup → List ℕ → Course
course_begun setup key =
    let o = called setup.to answers.Turn
    (began Server (wrapped (keys_of (half key (written_half Server)))) setup.own setup.timers setup.conn setup.began.0) in
    record { peer = o.peer; latest = setup.began; is_over = false; answers = []; effects = o.effects; staged = o.staged }

-- the run of these events over it, in their order
unfoldable pub session_run : SessionSetup → List ℕ → List EventAt → Course
session_run setup key events =
    after_events (wrapped (keys_of (half key (read_half Server)))) setup.to (course_begun setup key) events
