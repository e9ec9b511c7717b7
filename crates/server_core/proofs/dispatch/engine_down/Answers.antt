use Rattle.std.proofs.Common.{Option, option_map, sym, ap, subst, ◌∙◌}
use Rattle.vpn_base.specs.declared.names.Cid.{Cid}
use Rattle.server_table.specs.Engine.{down_at, engine_is_down}
use Rattle.server_state.specs.Core.{CourseStands}
use Rattle.server_core.proofs.dispatch.engine_down.Goals as goal

pub returns-in-None-clause-came : goal.returns-in-None-clause-came
unfolding engine_is_down
returns-in-None-clause-came g c before course h =
    subst (λ o. CourseStands g.S.ClientSession.stands before c.args.core.now c.report.new.out (down_at c.args.conn course o))
    (sym (ap (λ (o : Option Cid). option_map (λ cid. cid.0) o) c.in-None.is) ∙ c.by_connection.ensures course.table h.table)
    (c.report.ensures.reported before course h)

pub returns-in-Err-clause-lacking : goal.returns-in-Err-clause-lacking
returns-in-Err-clause-lacking g c before course h fresh =
    c.what_is_done_is_no_refusal.ensures.down c.args.conn course c.in-Some.field-0.0
    (sym (c.by_connection.ensures course.table h.table) ∙ ap (λ (o : Option Cid). option_map (λ cid. cid.0) o) c.in-Some.is) fresh
