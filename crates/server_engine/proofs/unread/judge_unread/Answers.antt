use Rattle.std.proofs.Common.{sym, subst, ◌∙◌}
use Rattle.server_table.specs.Engine.{unread_if}
use Rattle.server_state.specs.Core.{CourseStands}
use Rattle.server_engine.proofs.Judged.{judged, nobody_judged, sound_but}
use Rattle.server_engine.proofs.unread.judge_unread.Goals as goal

pub returns-in-None-clause-judged : goal.returns-in-None-clause-judged
returns-in-None-clause-judged g c before course h =
    nobody_judged g.S.ClientSession.stands before c.args.core.now course c.args.out.now c.args.cid.0 h
    (c.places_tell_of_clients.ensures.nobody c.args.core.now course.table c.args.cid.0 h.table (sym c.place.ensures.place ∙ c.in-None.is))

pub returns-then-has_too_much-clause-judged : goal.returns-then-has_too_much-clause-judged
returns-then-has_too_much-clause-judged g c before course h =
    judged g.S.ClientSession.stands before c.args.core.now course c.args.out.now c.args.cid.0 h c.in-Some.i
    (c.places_tell_of_clients.ensures.there c.args.core.now course.table c.args.cid.0 c.in-Some.i h.table (sym c.place.ensures.place ∙ c.in-Some.is))
    c.look_at.result.now c.look_at.ensures c.has_too_much.result c.has_too_much.ensures c.end.new.self c.end.new.out
    (subst (λ b. CourseStands g.S.ClientSession.stands before c.end.new.self c.end.new.out (unread_if c.args.cid.0 course b)) (sym c.if-has_too_much.true)
    (c.end.ensures.ended before course h))

pub returns-then-has_too_much-clause-sound : goal.returns-then-has_too_much-clause-sound
returns-then-has_too_much-clause-sound g c =
    c.end.ensures.sound (sound_but g.S.ClientSession.goes_on g.S.ClientSession.count g.S.ClientSession.since c.args.cid.0 c.args.core.now c.requires.sound)

pub returns-else-has_too_much-clause-judged : goal.returns-else-has_too_much-clause-judged
returns-else-has_too_much-clause-judged g c before course h =
    judged g.S.ClientSession.stands before c.args.core.now course c.args.out.now c.args.cid.0 h c.in-Some.i
    (c.places_tell_of_clients.ensures.there c.args.core.now course.table c.args.cid.0 c.in-Some.i h.table (sym c.place.ensures.place ∙ c.in-Some.is))
    c.look_at.result.now c.look_at.ensures c.has_too_much.result c.has_too_much.ensures c.args.core.now c.args.out.now
    (subst (λ b. CourseStands g.S.ClientSession.stands before c.args.core.now c.args.out.now (unread_if c.args.cid.0 course b)) (sym c.if-has_too_much.false) h)
