use Rattle.std.proofs.Common.{sym, subst}
use Rattle.peer_table.specs.EngineAnswers.{engine_came}
use Rattle.server_table.specs.Courses.{acted}
use Rattle.server_table.specs.Engine.{gone_on}
use Rattle.server_state.specs.Core.{CourseStands}
use Rattle.server_answers.specs.internal.Following.{MayFollow}
use Rattle.server_answers.proofs.Going.{acted_here, follows, kept_only, taken_in_turn, with_session}
use Rattle.server_answers.proofs.following.take_plain.Goals as goal

pub follow-requires-clause-kept : goal.follow-requires-clause-kept
follow-requires-clause-kept g c = kept_only c.args.core.now c.call_engine-turn.new.core c.args.prepared c.call_engine-turn.ensures.only c.requires.kept

pub returns-clause-came : goal.returns-clause-came
returns-clause-came g c before course x h there of unread most =
    let means = g.S.ClientSession.stands in
    let core = c.args.core.now in
    let o = engine_came c.args.kind.now course.table.moment x.session in
    let then = acted core.turn.0 x.address o course in
    let told = c.call_engine-turn.ensures.answer course.table x h.table there in
    let may = follows c.what_is_made_stays.ensures
    (record { known = c.names_stay.ensures.known; given = c.names_stay.ensures.given; same = c.names_stay.ensures.same })
    (record { known = c.names_fit.ensures.known; given = c.names_fit.ensures.given }) c.unread_text_is_read_in_order.ensures.engine c.args.kind.now course core.turn.0 x c.args.left c.args.longest there
    c.args.prepared of unread most in
    subst (λ turn. CourseStands means before c.follow.new.core c.follow.new.out (gone_on c.args.draw.now core.turn.0 then turn)) told
    (taken_in_turn means before c.call_engine-turn.new.core c.follow.new.core c.call_engine-turn.new.out c.follow.new.out c.args.draw.now core.turn then c.args.prepared c.args.left c.args.longest
    c.call_engine-turn.result c.call_engine-turn.ensures.turn_stays (λ d y hd at may. c.follow.ensures.followed before d y hd at may)
    (c.call_engine-turn.ensures.acted before course x h there) (with_session o.peer x) (acted_here core.turn.0 x.address o course x there)
    (subst (λ turn. MayFollow turn then core.turn.0 (with_session o.peer x) c.args.prepared c.args.left c.args.longest) (sym told) may))
