use Rattle.std.proofs.Common.{◌≡◌, ◌≤◌, ◌+◌, drop}
use Rattle.server_state.specs.Calls.{opens_in}
use Rattle.server_state.proofs.calls.count_opened.Given as goal

-- what was counted, and what the effects from here on open
abbrev pub invariant-loop-i : goal.invariant-loop-i
invariant-loop-i l = (l.count + opens_in (drop l.i l.out.effects) ≡ opens_in (drop l.from l.out.effects)) × (l.count + l.from ≤ l.i) × (l.i ≤ l.i-end) × (l.from ≤ l.i)
