use Rattle.std.proofs.Common.{◌≡◌, ◌≤◌, ◌++◌, length, map, take}
use Rattle.schedule_text.specs.EffectLine.{route_text}
use Rattle.schedule_text.specs.NoteText.{behind}
use Rattle.schedule_text.proofs.effect_line.put_routes.Given as goal

abbrev pub invariant-loop-i : goal.invariant-loop-i
invariant-loop-i l = record {
  within : l.i ≤ length l.routes;
  written : l.line.items ≡ l.fn.line.items ++ behind (map route_text (take l.i l.routes));
}
