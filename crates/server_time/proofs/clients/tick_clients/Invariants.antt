use Rattle.std.proofs.Common.{◌≡◌, ◌≤◌, ◌-◌, List}
use Rattle.vpn_links.specs.Actions.{Action}
use Rattle.client_table.specs.Tables.{admitted_by}
use Rattle.server_table.specs.Courses.{Course}
use Rattle.server_state.specs.Core.{CourseStands}
use Rattle.server_time.specs.Others.{KeepsRest}
use Rattle.server_time.specs.internal.Walks.{HasCome, MayGoOn}
use Rattle.server_time.proofs.clients.tick_clients.Given as goal

-- time has passed for all clients before this number
abbrev pub invariant-loop-cid : goal.invariant-loop-cid
invariant-loop-cid g l = record {
  ready : MayGoOn g.S.ClientSession.is_ready g.S.ClientSession.goes_on g.S.ClientSession.count g.S.ClientSession.since l.from.0 l.core l.out;
  come : (before : List Action) (c : Course) → CourseStands g.S.ClientSession.stands before l.fn.core l.fn.out c → HasCome g.S.ClientSession.stands before l.core l.out l.from.0 c;
  within : l.from.0 ≤ admitted_by l.core.clients;
  admitted : admitted_by l.core.clients ≡ admitted_by l.fn.core.clients;
  rest : KeepsRest l.fn.core l.core;
}

abbrev pub decreases-loop-cid : goal.decreases-loop-cid
decreases-loop-cid g l = admitted_by l.core.clients - l.from.0
