use Rattle.std.proofs.Common.{◌≡◌, drop}
use Rattle.std.specs.Prelude.{slice_get}
use Rattle.peer_table.specs.Places.{places_from}
use Rattle.key_sessions.specs.Slots.{all_slots}
use Rattle.key_sessions.specs.internal.Numbers.{picks}
use Rattle.key_sessions.proofs.slots.Slots.nth.Given as goal

abbrev pub invariant-loop-number : goal.invariant-loop-number
invariant-loop-number g l =
    slice_get (places_from (picks l.which) l.number (drop l.number (all_slots l.self))) l.left ≡
    slice_get (places_from (picks l.which) 0 (all_slots l.self)) l.fn.i
