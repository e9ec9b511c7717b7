use Rattle.std.proofs.Common.{ap, sym, ◌∙◌, arith}
use Rattle.std.specs.Prelude.{option_map}
use Rattle.vpn_links.specs.Actions.{action}
use Rattle.server_state.proofs.Acted.{opens_one, opens_step}
use Rattle.server_state.proofs.calls.count_opened.Goals as goal

pub loop-i-preserved : goal.loop-i-preserved
loop-i-preserved c =
    let a = action c.in-Some.effect in
    let step = opens_step c.args.out.now.effects c.loop-i.i a (sym c.effect.ensures ∙ ap (option_map action) c.in-Some.is) in
    let one = opens_one a in
    let counted = c.one_if_opens-count.ensures in
    let is = c.loop-i.invariant in
    (omega (arith, step, counted, is.0), omega (arith, one, counted, is.1), omega (arith, c.loop-i-test.true), omega (arith, is))
