use Rattle.std.proofs.Common.{◌≡◌, drop}
use Rattle.peer_table.specs.KeySessions.{with_kid}
use Rattle.peer_table.specs.Places.{places_from}
use Rattle.key_sessions.specs.Slots.{all_slots}
use Rattle.key_sessions.specs.internal.Numbers.{picks}
use Rattle.key_sessions.proofs.slots.Slots.first_with_kid.Given as goal

abbrev pub invariant-loop-number : goal.invariant-loop-number
invariant-loop-number g l =
    with_kid l.kid (places_from (picks l.which) l.number (drop l.number (all_slots l.self))) ≡
    with_kid l.kid (places_from (picks l.which) 0 (all_slots l.self))
