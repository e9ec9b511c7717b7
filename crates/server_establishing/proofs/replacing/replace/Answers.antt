use Rattle.std.proofs.Common.{option_map, sym, ap, subst, ◌∙◌}
use Rattle.server_table.specs.Establishing.{replaced}
use Rattle.server_state.specs.Core.{CourseStands}
use Rattle.server_establishing.proofs.Placed.{sound_but}
use Rattle.server_establishing.proofs.replacing.replace.Goals as goal

pub returns-in-Some-clause-replaced : goal.returns-in-Some-clause-replaced
returns-in-Some-clause-replaced g c before course h =
    subst (CourseStands g.S.ClientSession.stands before c.end.new.self c.end.new.out)
    (sym (c.replaced_by.ensures c.args.cid.0 course h.table ∙ ap (λ other. replaced c.args.cid.0 course (option_map (λ cid. cid.0) other)) c.in-Some.is))
    (c.end.ensures.ended before course h)

pub returns-in-Some-clause-sound : goal.returns-in-Some-clause-sound
returns-in-Some-clause-sound g c h =
    c.end.ensures.sound (sound_but g.S.ClientSession.goes_on g.S.ClientSession.count g.S.ClientSession.since c.in-Some.other.0 c.args.core.now h)
