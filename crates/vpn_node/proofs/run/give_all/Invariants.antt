use Rattle.std.proofs.Common.{◌≡◌, ◌≤◌, length, None}
use Rattle.vpn_links.specs.declared.links.LinkFault.{LinkFault}
use Rattle.vpn_node.specs.internal.Turns.{GaveFirst}
use Rattle.vpn_node.proofs.run.give_all.Given as goal

abbrev pub invariant-loop-i : goal.invariant-loop-i
invariant-loop-i g l =
    let links = g.L.Links in
    record {
      within : l.i ≤ length l.out.effects;
      gave : GaveFirst links.may_fail l.i l.out.effects (links.stands l.fn.links None) (links.stands l.links None) l.fn.lost l.lost;
      never_falls : (k : LinkFault) → links.faults l.fn.links k ≤ links.faults l.links k;
      started : links.started l.links ≡ links.started l.fn.links;
      origin : links.origin_of l.links ≡ links.origin_of l.fn.links;
    }
