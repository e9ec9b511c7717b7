use Rattle.std.proofs.Common.{◌∙◌, arith, None}
use Rattle.vpn_links.specs.Actions.{action}
use Rattle.vpn_node.proofs.Steps.{gave_more}
use Rattle.vpn_node.proofs.run.give_all.Goals as goal

pub loop-i-preserved : goal.loop-i-preserved
loop-i-preserved g c =
    let links = g.L.Links in
    record {
      within = omega (arith, c.loop-i-test.true, c.loop-i.invariant.within);
      gave = gave_more links.may_fail c.loop-i.i c.args.out.now.effects (action c.in-Some.e) (links.stands c.args.links.now None) (links.stands c.loop-i.links None) (links.stands c.give_one.new.links None)
          c.args.lost.now c.loop-i.lost c.give_one.new.lost c.in-Some.ensures c.loop-i.invariant.gave c.in_default-give_one.ensures.gave;
      never_falls = λ k. omega (arith, c.loop-i.invariant.never_falls k, c.give_one.ensures.never_falls k);
      started = c.give_one.ensures.started ∙ c.loop-i.invariant.started;
      origin = c.give_one.ensures.origin ∙ c.loop-i.invariant.origin;
    }
