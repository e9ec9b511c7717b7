-- Whole runs of a sending side.
use Rattle.std.specs.Prelude.{ℕ, List, [], ◌∷◌, ◌++◌, map, if◌then◌else◌}
use Rattle.vpn_base.specs.declared.names.Moment.{Moment}
use Rattle.reliable_send.specs.declared.runs.SendingEvent.{SendingEvent}
use Rattle.reliable_send.specs.declared.runs.SendingEvent.TheVariants.{Offer, Started, Acked, Send, Tick}
use Rattle.reliable_send.specs.Sending.{Sending, Numbered, peer_started, is_full, offered, acked, ready, due, sent}

-- a moment, and the id of a piece that was sent then
abbrev pub SentAt : Type 0
SentAt = Moment × ℕ

-- each of these pieces was sent at this moment
abbrev pub sent_all : List Numbered → ℕ → Sending → Sending
sent_all [] now h = h
sent_all (p ∷ pieces) now h = sent_all pieces now (sent h p.0 now)

-- the history after bytes were offered: where there is no room for them nothing changes
abbrev pub offered_if_room : Sending → List ℕ → Sending
offered_if_room h bytes = if is_full h bytes then h else offered h bytes

-- the history after an event: a sending sends what may be sent, and a tick what is due
abbrev pub after : Sending → SendingEvent → Sending
after h (Offer bytes) = offered_if_room h bytes
after h Started = peer_started h
after h (Acked id) = acked h id
after h (Send now) = sent_all (ready h) now.0 h
after h (Tick now) = sent_all (due h now.0) now.0 h

-- what an event sends
abbrev pub sent_by : Sending → SendingEvent → List SentAt
sent_by h (Send now) = map (λ p. (now, p.0)) (ready h)
sent_by h (Tick now) = map (λ p. (now, p.0)) (due h now.0)
sent_by h other = []

-- what a run of events sends, in order
abbrev pub sent_in : List SendingEvent → Sending → List SentAt
sent_in [] h = []
sent_in (e ∷ events) h = sent_by h e ++ sent_in events (after h e)

-- the history after all of them
abbrev pub after_all : List SendingEvent → Sending → Sending
after_all [] h = h
after_all (e ∷ events) h = after_all events (after h e)
