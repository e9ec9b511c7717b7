-- Whole runs of a data channel: inner packets to be sealed and datagrams that come, in any order.
use Rattle.std.specs.Prelude.{ℕ, ◌-◌, nat_le, ◌==◌, ◌^◌, Bool, true, false, List, [], ◌∷◌, length, Result, Ok, Err}
use Rattle.vpn_base.specs.declared.names.Moment.{Moment}
use Rattle.packet_ids.specs.Freshness.{begun}
use Rattle.data_channel.specs.declared.channel.DataFault.{DataFault}
use Rattle.data_channel.specs.declared.runs.ChannelAnswer.{ChannelAnswer}
use Rattle.data_channel.specs.declared.runs.ChannelAnswer.TheVariants.{Sealed, Spent, Opened, Refused, Long}
use Rattle.data_channel.specs.declared.runs.ChannelEvent.{ChannelEvent}
use Rattle.data_channel.specs.declared.runs.ChannelEvent.TheVariants.{Inner, Datagram}
use Rattle.data_channel.specs.declared.runs.ChannelSetup.{ChannelSetup}
use Rattle.data_channel.specs.Channels.{Channel, answer_to, channel_of, next_packet, opened_by, with_opened, with_sealed}

-- an event, and its moment
abbrev pub EventAt : Type 0
EventAt = ChannelEvent × Moment

-- the channel of these keys and settings, of whose other end nothing was accepted
abbrev pub channel_begun : List ℕ → ChannelSetup → Channel
channel_begun block s =
    channel_of s.role (record { block = block; cipher = s.cipher; peer_id = s.peer_id }) s.kid (begun s.win s.win_secs) s.last_sealed

-- ---- sealing

-- whether the last packet id was used
abbrev pub ids_are_spent : Channel → Bool
ids_are_spent c = c.sealed == 2 ^ 32 - 1

-- whether the ids are spent decides
abbrev pub seal_answer_if : Channel → List ℕ → Bool → ChannelAnswer
seal_answer_if c inner true = Spent
seal_answer_if c inner false = Sealed (next_packet c inner)

-- what is answered to an inner packet
abbrev pub seal_answer : Channel → List ℕ → ChannelAnswer
seal_answer c inner = seal_answer_if c inner (ids_are_spent c)

-- whether the ids are spent decides
abbrev pub after_sealing_if : Channel → Bool → Channel
after_sealing_if c true = c
after_sealing_if c false = with_sealed c

-- the channel after an inner packet came
abbrev pub after_sealing : Channel → Channel
after_sealing c = after_sealing_if c (ids_are_spent c)

-- ---- opening

-- an inner packet, or why it is refused
abbrev pub opened_answer : Result (List ℕ) DataFault → ChannelAnswer
opened_answer (Ok inner) = Opened inner
opened_answer (Err fault) = Refused fault

-- what is answered to a datagram
abbrev pub opening_answer : Channel → List ℕ → Moment → ChannelAnswer
opening_answer c datagram now = opened_answer (answer_to c.received now (opened_by c datagram))

-- the channel after a datagram came
abbrev pub after_opening : Channel → List ℕ → Moment → Channel
after_opening c datagram now = with_opened c now (opened_by c datagram)

-- ---- runs

-- a packet that is too long is not handed to the channel
abbrev pub answer_if : Bool → ChannelAnswer → ChannelAnswer
answer_if true answer = answer
answer_if false answer = Long

-- the same for the channel after it
abbrev pub after_if : Bool → Channel → Channel → Channel
after_if true c next = next
after_if false c next = c

-- whether the packet of an event is no longer than a call takes it
abbrev pub is_short : ChannelEvent → Bool
is_short (Inner packet) = nat_le (length packet) 65512
is_short (Datagram bytes) = nat_le (length bytes) 65536

-- what is answered to an event whose packet is not too long
abbrev pub short_answer : Channel → ChannelEvent → Moment → ChannelAnswer
short_answer c (Inner packet) now = seal_answer c packet
short_answer c (Datagram bytes) now = opening_answer c bytes now

-- the channel after it
abbrev pub after_short : Channel → ChannelEvent → Moment → Channel
after_short c (Inner packet) now = after_sealing c
after_short c (Datagram bytes) now = after_opening c bytes now

-- what is answered to an event
abbrev pub answer_of : Channel → ChannelEvent → Moment → ChannelAnswer
answer_of c event now = answer_if (is_short event) (short_answer c event now)

-- the channel after an event
abbrev pub after : Channel → ChannelEvent → Moment → Channel
after c event now = after_if (is_short event) c (after_short c event now)

-- the same for an event with its moment
abbrev pub after_event : Channel → EventAt → Channel
after_event c e = after c e.0 e.1

-- the answer to each event, in order
abbrev pub answers_of : Channel → List EventAt → List ChannelAnswer
answers_of c [] = []
answers_of c (e ∷ events) = answer_of c e.0 e.1 ∷ answers_of (after_event c e) events

-- the channel after all of them
abbrev pub after_events : Channel → List EventAt → Channel
after_events c [] = c
after_events c (e ∷ events) = after_events (after_event c e) events
