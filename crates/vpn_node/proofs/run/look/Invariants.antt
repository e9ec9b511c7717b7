use Rattle.std.proofs.Common.{◌≡◌, ◌≤◌, length, take}
use Rattle.vpn_links.specs.Actions.{stops}
use Rattle.vpn_node.specs.Running.{not_learned}
use Rattle.vpn_node.proofs.run.look.Given as goal

abbrev pub invariant-loop-i : goal.invariant-loop-i
invariant-loop-i l = record {
  within : l.i ≤ length l.out.effects;
  few : l.seen.not_learned ≤ l.i;
  not_learned : l.seen.not_learned ≡ not_learned (take l.i l.out.effects);
  stops : l.seen.stops ≡ stops (take l.i l.out.effects);
}
