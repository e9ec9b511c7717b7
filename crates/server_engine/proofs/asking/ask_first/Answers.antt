use Rattle.std.proofs.Common.{[], sym, subst, ap, ◌∙◌}
use Rattle.std.specs.Prelude.{unwrap_or}
use Rattle.ccd_files.specs.ClientFile.{no_ccd}
use Rattle.server_table.specs.Engine.{asked_in}
use Rattle.server_table.specs.Table.{Known}
use Rattle.server_state.specs.Core.{CourseStands}
use Rattle.server_engine.proofs.Asked.{set_alone}
use Rattle.server_engine.proofs.asking.ask_first.Goals as goal

pub returns-in-None-clause-asked : goal.returns-in-None-clause-asked
returns-in-None-clause-asked g c before course x h here fits =
    let means = g.S.ClientSession.stands in
    let core = c.args.core.now in
    subst (λ o. CourseStands means before c.set_file.new.core c.args.out.now (asked_in c.args.cid.0 (unwrap_or x.session.name []) course o))
    (sym c.in-None.is ∙ ap (λ s. s.ccd) h.table.settings)
    (set_alone means core before course c.set_file.new.core c.args.out.now c.args.cid.0 (Known no_ccd) h c.set_file.ensures.turn_stays c.set_file.ensures.mark_stays
    (c.set_file.ensures.set course.table c.args.cid.0 (Known no_ccd) h.table c.requires.place (λ y at. c.no_file.ensures)))

pub returns-in-Some-clause-asked : goal.returns-in-Some-clause-asked
returns-in-Some-clause-asked g c before course x h here fits =
    let means = g.S.ClientSession.stands in
    subst (λ o. CourseStands means before c.ask_own.new.core c.ask_own.new.out (asked_in c.args.cid.0 (unwrap_or x.session.name []) course o))
    (sym c.in-Some.is ∙ ap (λ s. s.ccd) h.table.settings)
    (c.ask_own.ensures.asked before course x h here fits)
