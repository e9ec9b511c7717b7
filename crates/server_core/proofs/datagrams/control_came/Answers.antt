use Rattle.std.proofs.Common.{ℕ, List, subst}
use Rattle.server_table.specs.ControlDatagrams as server
use Rattle.server_state.specs.Core.{CourseStands}
use Rattle.server_core.proofs.Came.{ok_then}
use Rattle.server_core.proofs.datagrams.control_came.Goals as goal

pub returns-clause-came : goal.returns-clause-came
returns-clause-came g c =
    ok_then c.control_arrived.result c.control_arrived.ensures.arrived
    (λ arrived before course lacks h.
    subst
    (λ (bytes : List ℕ). CourseStands g.S.ClientSession.stands before c.control_arrived.new.core c.control_arrived.new.out
    (server.control_arrived (record { from = c.args.from; bytes = bytes; lacks = lacks }) c.args.draw.now c.args.op course))
    c.copy_in.ensures.front (arrived before course lacks h))
