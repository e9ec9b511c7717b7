use Rattle.std.proofs.Common.{subst, sym, ◌∙◌}
use Rattle.peer_table.specs.EngineAnswers.{engine_came}
use Rattle.server_state.specs.Core.{CourseStands}
use Rattle.server_answers.proofs.Looked.{acted_plain, acted_text}
use Rattle.server_answers.proofs.Readied.{on_ok}
use Rattle.server_answers.proofs.answering.answered_at.Goals as goal

pub returns-then-is_text-clause-came : goal.returns-then-is_text-clause-came
returns-then-is_text-clause-came g c =
    on_ok c.text_answered.result c.text_answered.ensures.sent
    (λ sent before course x h there.
    subst (CourseStands g.S.ClientSession.stands before c.text_answered.new.core c.text_answered.new.out)
    (sym (acted_text c.args.draw.now c.args.core.now.turn.0 x course c.args.kind.now (engine_came c.args.kind.now course.table.moment x.session) (sym c.is_text.ensures ∙ c.if-is_text.true)))
    (sent before course x h there))

pub returns-clause-came : goal.returns-clause-came
returns-clause-came g c =
    on_ok c.plain_answered.result c.plain_answered.ensures.came
    (λ came before course x h there.
    subst (CourseStands g.S.ClientSession.stands before c.plain_answered.new.core c.plain_answered.new.out)
    (sym (acted_plain c.args.draw.now c.args.core.now.turn.0 x course c.args.kind.now (engine_came c.args.kind.now course.table.moment x.session) (sym c.is_text.ensures ∙ c.if-is_text.false)))
    (came before course x h there))
