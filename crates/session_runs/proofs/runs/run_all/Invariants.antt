use Rattle.std.proofs.Common.{◌≡◌, ◌≤◌, ◌+◌, false, take, List}
use Rattle.vpn_links.specs.Actions.{Action, Datagram}
use Rattle.session_runs.specs.Runs.{Course, after_events}
use Rattle.session_runs.specs.internal.Courses.{IsAt}
use Rattle.session_runs.proofs.runs.run_all.Given as goal

abbrev pub invariant-loop-at : goal.invariant-loop-at
invariant-loop-at g l = record {
  stood : (effects : List Action) (staged : List Datagram) (c : Course) → IsAt g.S.ClientSession.stands l.fn.run l.fn.out effects staged c →
      IsAt g.S.ClientSession.stands l.run l.out effects staged (after_events (g.W.Wrap.unwrapped l.wrap) l.to c (take l.at-index l.events));
  going : l.run.is_over ≡ false → g.S.ClientSession.goes_on l.run.session;
  few : g.S.ClientSession.count l.run.session ≤ l.at-index + 1;
  past : g.S.ClientSession.since l.run.session ≤ l.run.latest.0;
}
