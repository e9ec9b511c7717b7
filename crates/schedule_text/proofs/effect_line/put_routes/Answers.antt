use Rattle.std.proofs.Common.{◌∷◌, ◌++◌, ap, ◌∙◌, arith}
use Rattle.schedule_text.specs.EffectLine.{block_text, route_text}
use Rattle.schedule_text.proofs.Behind.{put_one}
use Rattle.schedule_text.proofs.effect_line.put_routes.Goals as goal

pub loop-i-preserved : goal.loop-i-preserved
loop-i-preserved c = record {
  within = omega (arith, c.loop-i-test.true);
  written = put_one route_text c.args.routes.now c.loop-i.i c.in-Some.route c.args.line.now.items c.loop-i.line.items c.put_block.new.line.items
      c.in-Some.ensures c.loop-i.invariant.written
      (c.in_ok-put_block.ensures ∙ (ap (λ a. c.loop-i.line.items ++ 32 ∷ block_text a c.len.result) c.net.ensures
      ∙ ap (λ l. c.loop-i.line.items ++ 32 ∷ block_text c.in-Some.route.net l) c.len.ensures.same));
}
