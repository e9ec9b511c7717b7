use Rattle.std.proofs.Common.{◌∷◌, ◌++◌, ap, ◌∙◌, arith}
use Rattle.schedule_text.specs.NoteText.{hex_text}
use Rattle.schedule_text.proofs.Behind.{put_one}
use Rattle.schedule_text.proofs.effect_line.put_texts.Goals as goal

pub loop-i-preserved : goal.loop-i-preserved
loop-i-preserved c = record {
  within = omega (arith, c.loop-i-test.true);
  written = put_one hex_text c.args.texts.now c.loop-i.i c.in-Some.text.now c.args.line.now.items c.loop-i.line.items c.put_hex.new.line.items
      c.in-Some.ensures c.loop-i.invariant.written
      (c.in_ok-put_hex.ensures ∙ ap (λ t. c.loop-i.line.items ++ 32 ∷ hex_text t) c.as_slice.ensures);
}
