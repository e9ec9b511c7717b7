use Rattle.std.proofs.Common.{take, ap, sym, ◌∙◌, ◌||◌, arith}
use Rattle.vpn_links.specs.Actions.{action, is_stop, stops}
use Rattle.vpn_node.specs.Running.{not_learned, one_if}
use Rattle.vpn_node.proofs.Lists.{any_one, not_learned_one, take_next}
use Rattle.vpn_node.proofs.run.look.Goals as goal

pub loop-i-preserved : goal.loop-i-preserved
loop-i-preserved c =
    let effects = c.args.out.now.effects in
    let i = c.loop-i.i in
    let a = action c.in-Some.e in
    let next = take_next effects i a c.in-Some.ensures in
    record {
      within = omega (arith, c.loop-i-test.true, c.loop-i.invariant.within);
      few = omega (arith, c.loop-i.invariant.few, c.one_if.ensures.most);
      not_learned = omega (arith, c.loop-i.invariant.not_learned, c.one_if.ensures.same, ap one_if c.is_not_learned.ensures, ap not_learned next, not_learned_one (take i effects) a);
      stops = ap (λ b. b || c.is_stop.result) c.loop-i.invariant.stops ∙ (ap (λ b. stops (take i effects) || b) c.is_stop.ensures ∙ (sym (any_one is_stop (take i effects) a) ∙ sym (ap stops next)));
    }
