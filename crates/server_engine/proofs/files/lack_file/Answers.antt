use Rattle.std.proofs.Common.{None, sym, subst, ap, ◌∙◌}
use Rattle.server_table.specs.Engine.{file_known, file_lacking, file_missing}
use Rattle.server_engine.specs.internal.Asked.{IsTakenAs}
use Rattle.server_engine.proofs.Judged.{sound_but}
use Rattle.server_engine.proofs.files.lack_file.Goals as goal

pub returns-then-core-clause-lacking : goal.returns-then-core-clause-lacking
returns-then-core-clause-lacking g c before course draw name h is =
    subst (λ b. IsTakenAs g.S.ClientSession.stands before c.end.new.self c.end.new.out draw c.args.cid.0 course (file_lacking draw c.args.cid.0 name course b) None)
    (sym c.if-core.true ∙ ap (λ s. s.exclusive) h.table.settings) (c.end.ensures.ended before course h)

pub returns-then-core-clause-sound : goal.returns-then-core-clause-sound
returns-then-core-clause-sound g c =
    c.end.ensures.sound (sound_but g.S.ClientSession.goes_on g.S.ClientSession.count g.S.ClientSession.since c.args.cid.0 c.args.core.now c.requires.sound)

pub returns-then-is_default-clause-lacking : goal.returns-then-is_default-clause-lacking
returns-then-is_default-clause-lacking g c before course draw name h is =
    let n = c.args.cid.0 in (
      h,
      ap (λ b. file_lacking draw n name course b) (sym (ap (λ s. s.exclusive) h.table.settings) ∙ c.if-core.false)
          ∙ ap (λ b. file_missing draw n course b) (sym is ∙ c.if-is_default.true)
          ∙ ap (λ file. file_known draw n file course) (sym c.no_file.ensures),
    )

pub returns-clause-lacking : goal.returns-clause-lacking
returns-clause-lacking g c before course draw name h is =
    let means = g.S.ClientSession.stands in
    let n = c.args.cid.0 in
    subst (λ b. IsTakenAs means before c.ask_default.new.core c.ask_default.new.out draw n course (file_lacking draw n name course b) None)
    (sym c.if-core.false ∙ ap (λ s. s.exclusive) h.table.settings)
    (subst (λ b. IsTakenAs means before c.ask_default.new.core c.ask_default.new.out draw n course (file_missing draw n course b) None) (sym c.if-is_default.false ∙ is)
    (c.ask_default.ensures.asked before course h))
