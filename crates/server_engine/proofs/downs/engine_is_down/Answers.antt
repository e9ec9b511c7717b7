use Rattle.std.proofs.Common.{Option, option_map, sym, subst, ap, ◌∙◌}
use Rattle.vpn_base.specs.declared.names.Cid.{Cid}
use Rattle.server_table.specs.Engine.{down_at, engine_is_down}
use Rattle.server_state.specs.Core.{CourseStands}
use Rattle.server_engine.proofs.Judged.{sound_but}
use Rattle.server_engine.proofs.downs.engine_is_down.Goals as goal

pub returns-in-None-clause-came : goal.returns-in-None-clause-came
unfolding engine_is_down
returns-in-None-clause-came g c before course h =
    subst (λ o. CourseStands g.S.ClientSession.stands before c.args.core.now c.report.new.out (down_at c.args.conn course o))
    (sym (ap (λ (o : Option Cid). option_map (λ cid. cid.0) o) c.in-None.is) ∙ c.by_connection.ensures course.table h.table)
    (c.report.ensures.reported before course h)

pub returns-in-Some-clause-came : goal.returns-in-Some-clause-came
unfolding engine_is_down
returns-in-Some-clause-came g c before course h =
    subst (λ o. CourseStands g.S.ClientSession.stands before c.end.new.self c.end.new.out (down_at c.args.conn course o))
    (sym (ap (λ (o : Option Cid). option_map (λ cid. cid.0) o) c.in-Some.is) ∙ c.by_connection.ensures course.table h.table)
    (c.end.ensures.ended before course h)

pub returns-in-Some-clause-sound : goal.returns-in-Some-clause-sound
returns-in-Some-clause-sound g c =
    c.end.ensures.sound (sound_but g.S.ClientSession.goes_on g.S.ClientSession.count g.S.ClientSession.since c.in-Some.cid.0 c.args.core.now c.requires.sound)
