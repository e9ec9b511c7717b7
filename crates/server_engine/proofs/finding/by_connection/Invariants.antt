use Rattle.std.proofs.Common.{◌≡◌, ◌≤◌, length}
use Rattle.client_table.specs.Tables.{entries_of}
use Rattle.server_engine.proofs.Found.{HasNot}
use Rattle.server_engine.proofs.finding.by_connection.Given as goal

-- no client before this place has the connection
abbrev pub invariant-loop-i : goal.invariant-loop-i
invariant-loop-i g l = (l.i ≤ l.i-end) × (l.i-end ≡ length (entries_of l.core.clients)) × HasNot g.S.ClientSession.stands l.conn l.i (entries_of l.core.clients)
