use Rattle.std.proofs.Common.{◌≡◌, ◌+◌, ◌++◌, ◌≤◌, take, vec_len, vec_capacity}
use Rattle.route_table.specs.Learned.{rows_of}
use Rattle.route_table.proofs.rows.put_rest.Given as goal

abbrev pub invariant-loop-i : goal.invariant-loop-i
invariant-loop-i l = record {
  items : l.rows.items ≡ l.initial.rows.items ++ rows_of l.cid (take l.i l.rest);
  capacity : vec_capacity l.initial.rows ≤ vec_capacity l.rows;
  room : vec_len l.rows ≡ vec_len l.initial.rows + l.i;
}
