use Rattle.std.proofs.Common.{◌≡◌, ◌+◌, ◌++◌, ◌≤◌, take, vec_len, vec_capacity}
use Rattle.route_table.specs.Learned.{rows_of}
use Rattle.route_table.proofs.rows.put_own.Given as goal

abbrev pub invariant-loop-prefix : goal.invariant-loop-prefix
invariant-loop-prefix l = record {
  items : l.rows.items ≡ l.initial.rows.items ++ rows_of l.cid (take l.prefix-index l.own);
  capacity : vec_capacity l.initial.rows ≤ vec_capacity l.rows;
  room : vec_len l.rows ≡ vec_len l.initial.rows + l.prefix-index;
}
