use Rattle.std.proofs.Common.{◌∙◌, refl, inl, inr}
use Rattle.vpn_top.specs.declared.refusal.Refusal.TheVariants as refusals
use Rattle.vpn_top.proofs.Answers.{told_line}
use Rattle.vpn_top.proofs.top.tell.Goals as goal

pub returns-in-Ok-write_all-clause-told : goal.returns-in-Ok-write_all-clause-told
returns-in-Ok-write_all-clause-told g c = (
  inl refl,
  told_line c.args.subject.now c.args.refusal (g.E.Sink.faults c.args.err.now, g.E.Sink.faults c.write_all.new.sink) (g.E.Sink.contents c.args.err.now) (g.E.Sink.contents c.write_all.new.sink) c.deref.result.now
      c.in-Ok-write_all.ensures.ok (c.deref.ensures.value ∙ c.in-Ok.ensures),
)

pub returns-clause-told : goal.returns-clause-told
returns-clause-told g c = (inr (inr (refl, c.in-Err-write_all-2.ensures.failed)), inr (c.in-Err-write_all-2.ensures.failed, (refusals.NoMemory, c.in-Err-write_all-2.ensures.part)))
