use Rattle.std.proofs.Common.{Option, option_map, sym, ap, subst, ◌∙◌}
use Rattle.vpn_base.specs.declared.names.Cid.{Cid}
use Rattle.server_table.specs.Engine as definitions
use Rattle.server_state.specs.Core.{CourseStands}
use Rattle.server_answers.proofs.Readied.{on_err, on_ok}
use Rattle.server_answers.proofs.answering.engine_answered.Goals as goal

pub returns-in-None-clause-came : goal.returns-in-None-clause-came
unfolding definitions.engine_answered
returns-in-None-clause-came g c before course h =
    subst (λ o. CourseStands g.S.ClientSession.stands before c.args.core.now c.report.new.out (definitions.answer_at c.args.draw.now c.args.conn c.args.kind.now course o))
    (sym (ap (λ (o : Option Cid). option_map (λ cid. cid.0) o) c.in-None.is) ∙ c.by_connection.ensures course.table h.table) (c.report.ensures.reported before course h)

pub returns-in-Some-clause-came : goal.returns-in-Some-clause-came
unfolding definitions.engine_answered
returns-in-Some-clause-came g c =
    on_ok c.client_answered.result c.client_answered.ensures.came
    (λ came before course h.
    subst (λ o. CourseStands g.S.ClientSession.stands before c.client_answered.new.core c.client_answered.new.out (definitions.answer_at c.args.draw.now c.args.conn c.args.kind.now course o))
    (sym (ap (λ (o : Option Cid). option_map (λ cid. cid.0) o) c.in-Some.is) ∙ c.by_connection.ensures course.table h.table) (came before course h))

pub returns-in-Some-clause-lacking : goal.returns-in-Some-clause-lacking
returns-in-Some-clause-lacking g c =
    on_err c.client_answered.result c.client_answered.ensures.events
    (λ events before course h fresh.
    c.what_is_done_is_no_refusal.ensures.answer c.args.draw.now c.args.conn c.args.kind.now c.in-Some.cid.0 course
    (sym (c.by_connection.ensures course.table h.table) ∙ ap (λ (o : Option Cid). option_map (λ cid. cid.0) o) c.in-Some.is) fresh)
