use Rattle.std.proofs.Common.{◌≡◌, ◌+◌, ◌-◌}
use Rattle.std.specs.List.{list_any, range_with_len}
use Rattle.packet_ids.specs.Window.{has_old}
use Rattle.packet_ids.proofs.windows.Window.has_overtaking.Given as goal

-- none of the ids so far is such
abbrev pub invariant-loop-i : goal.invariant-loop-i
invariant-loop-i l =
    list_any (has_old l.self l.now) (range_with_len (l.i + 1) (l.self.greatest - l.i))
    ≡ list_any (has_old l.self l.now) (range_with_len (l.id + 1) (l.self.greatest - l.id))
