use Rattle.std.proofs.Common.{subst}
use Rattle.vpn_base.specs.declared.names.Cid.{Cid}
use Rattle.peer_table.specs.EngineAnswers.{engine_came}
use Rattle.server_table.specs.Courses.{acted}
use Rattle.server_table.specs.Endings.{turned}
use Rattle.server_state.specs.Core.{CourseStands}
use Rattle.server_engine.proofs.calling.send_text.Goals as goal

pub returns-clause-sent : goal.returns-clause-sent
returns-clause-sent g c before course x h here =
    let means = g.S.ClientSession.stands in
    let core = c.args.core.now in
    let o = engine_came c.args.kind.now course.table.moment x.session in
    let after = acted core.turn.0 x.address o course in
    subst (λ turn. CourseStands means before c.end_if_over.new.core c.end_if_over.new.out (turned core.turn.0 turn after)) (c.call_engine-turn.ensures.answer course.table x h.table here)
    (subst (λ (who : Cid). CourseStands means before c.end_if_over.new.core c.end_if_over.new.out (turned who.0 c.call_engine-turn.result after)) c.call_engine-turn.ensures.turn_stays
    (c.end_if_over.ensures.turned before after (c.call_engine-turn.ensures.acted before course x h here)))
