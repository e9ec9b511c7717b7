use Rattle.std.proofs.Common.{◌≡◌, ◌+◌, ◌≤◌, take}
use Rattle.route_table.specs.Owner.{best_row}
use Rattle.route_table.proofs.rows.owner_among.Given as goal

abbrev pub invariant-loop-row : goal.invariant-loop-row
invariant-loop-row g l = record {
  best : l.best ≡ best_row (take l.row-index l.rows) l.a;
  cost : l.steps ≤ l.initial.steps + l.row-index;
}
