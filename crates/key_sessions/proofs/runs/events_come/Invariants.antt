use Rattle.std.proofs.Common.{◌≡◌, ◌++◌, drop, take, None}
use Rattle.peer_table.specs.Peer.{Peer}
use Rattle.key_sessions.specs.Runs.{after_events, answers_of}
use Rattle.key_sessions.specs.Slots.{IsWhole}
use Rattle.key_sessions.specs.internal.Courses.{IsAt}
use Rattle.key_sessions.proofs.runs.events_come.Given as goal

abbrev pub invariant-loop-event : goal.invariant-loop-event
invariant-loop-event l = record {
  whole : IsWhole l.slots;
  at : (p : Peer) → IsAt l.setup.timers l.fn.slots None p → IsAt l.setup.timers l.slots l.known (after_events l.setup p (take l.event-index l.events));
  told : (p : Peer) → IsAt l.setup.timers l.fn.slots None p →
      l.answers.items ++ answers_of l.setup (after_events l.setup p (take l.event-index l.events)) (drop l.event-index l.events) ≡ answers_of l.setup p l.events;
}
