use Rattle.std.proofs.Common.{◌≤◌, drop, length}
use Rattle.client_table.specs.Tables.{entries_of}
use Rattle.server_time.specs.Memory.{AreReady, StaysSame}
use Rattle.server_time.proofs.memory.ready_all.Given as goal

-- those behind this place are ready
abbrev pub invariant-loop-left : goal.invariant-loop-left
invariant-loop-left g l = record {
  stays : StaysSame g.S.ClientSession.stands g.S.ClientSession.goes_on g.S.ClientSession.count g.S.ClientSession.since l.fn.core l.core;
  within : l.left ≤ length (entries_of l.core.clients);
  ready : AreReady g.S.ClientSession.is_ready (drop l.left (entries_of l.core.clients)) l.effects l.bytes;
}

abbrev pub decreases-loop-left : goal.decreases-loop-left
decreases-loop-left g l = l.left
