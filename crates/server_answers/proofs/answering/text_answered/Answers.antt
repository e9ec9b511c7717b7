use Rattle.std.proofs.Common.{ap, subst, ◌∙◌}
use Rattle.vpn_base.specs.declared.names.Cid.{Cid}
use Rattle.peer_table.specs.EngineAnswers.{engine_came}
use Rattle.server_table.specs.Engine.{text_acted}
use Rattle.server_table.specs.Lookups.{client_here}
use Rattle.server_state.specs.Core.{CourseStands}
use Rattle.server_answers.proofs.Readied.{outbox_same}
use Rattle.server_answers.proofs.answering.text_answered.Goals as goal

pub returns-clause-sent : goal.returns-clause-sent
returns-clause-sent g c before course x h there =
    let means = g.S.ClientSession.stands in
    let stays = c.make_ready.ensures.stays in
    let ready = outbox_same means before c.make_ready.new.core c.args.out.now c.reserve_ending.new.out course (stays.same before c.args.out.now course h) c.reserve_ending.ensures.same in
    subst (λ (who : Cid). CourseStands means before c.send_text.new.core c.send_text.new.out
    (text_acted who.0 x course (engine_came c.args.kind.now course.table.moment x.session))) stays.turn
    (c.send_text.ensures.sent before course x ready (ap (λ (who : Cid). client_here course.table who.0) stays.turn ∙ there))
