use Rattle.std.proofs.Common.{◌≡◌, ◌≤◌, ◌-◌, None}
use Rattle.vpn_links.specs.declared.links.LinkFault.{LinkFault}
use Rattle.vpn_node.specs.internal.Turns.{Going}
use Rattle.vpn_node.proofs.run.run_turns.Given as goal

abbrev pub invariant-loop-tally : goal.invariant-loop-tally
invariant-loop-tally g l =
    let m = g.M.Machine in
    let links = g.L.Links in
    record {
      within : l.tally.events ≤ l.turns;
      going : (t : m.Table) → m.stands l.fn.machine t → Going links.may_fail m.next m.effects m.may_lack (m.stands l.machine) (links.stands l.fn.links None) (links.stands l.links None) t l.tally;
      never_falls : (k : LinkFault) → links.faults l.fn.links k ≤ links.faults l.links k;
      started : links.started l.links ≡ links.started l.fn.links;
      origin : links.origin_of l.links ≡ links.origin_of l.fn.links;
    }

abbrev pub decreases-loop-tally : goal.decreases-loop-tally
decreases-loop-tally g l = l.turns - l.tally.events
