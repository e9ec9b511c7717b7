use Rattle.std.proofs.Common.{ap, subst, ◌∙◌}
use Rattle.vpn_base.specs.declared.names.Cid.{Cid}
use Rattle.peer_table.specs.EngineAnswers.{engine_came}
use Rattle.server_table.specs.Engine.{engine_acted}
use Rattle.server_table.specs.Lookups.{client_here}
use Rattle.server_state.specs.Core.{CourseStands}
use Rattle.server_answers.proofs.Readied.{on_err, on_ok, stays_on}
use Rattle.server_answers.proofs.answering.plain_answered.Goals as goal

pub returns-clause-came : goal.returns-clause-came
returns-clause-came g c =
    let means = g.S.ClientSession.stands in
    let stays = c.make_ready.ensures.stays in
    on_ok c.plain_ready.result c.plain_ready.ensures.came
    (λ came before course x h there.
    subst (λ (who : Cid). CourseStands means before c.plain_ready.new.core c.plain_ready.new.out
    (engine_acted c.args.draw.now who.0 x course (engine_came c.args.kind.now course.table.moment x.session))) stays.turn
    (came before course x (stays.same before c.args.out.now course h) (ap (λ (who : Cid). client_here course.table who.0) stays.turn ∙ there)))

pub returns-clause-stays : goal.returns-clause-stays
returns-clause-stays g c =
    on_err c.plain_ready.result c.plain_ready.ensures.stays
    (λ stays. stays_on g.S.ClientSession.stands g.S.ClientSession.goes_on g.S.ClientSession.count g.S.ClientSession.since c.args.core.now c.make_ready.new.core c.plain_ready.new.core
    c.make_ready.ensures.stays stays)
