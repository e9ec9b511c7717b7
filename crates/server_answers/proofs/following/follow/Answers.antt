use Rattle.std.proofs.Common.{sym, subst}
use Rattle.server_table.specs.Engine.{gone_on}
use Rattle.server_state.specs.Core.{CourseStands}
use Rattle.server_answers.specs.internal.Following.{MayFollow}
use Rattle.server_answers.proofs.Going.{name_here}
use Rattle.server_answers.proofs.following.follow.Goals as goal

pub returns-in-Going-clause-followed : goal.returns-in-Going-clause-followed
returns-in-Going-clause-followed g c before course x h there may =
    let core = c.args.core.now in
    let m = subst (λ turn. MayFollow turn course core.turn.0 x c.args.prepared c.args.left c.args.longest) c.in-Going.is may in
    subst (λ turn. CourseStands g.S.ClientSession.stands before c.follow_going.new.core c.follow_going.new.out (gone_on c.args.draw.now core.turn.0 course turn)) (sym c.in-Going.is)
    (c.follow_going.ensures.followed before course x h there m.prepared m.unread)

pub returns-in-Named-clause-followed : goal.returns-in-Named-clause-followed
returns-in-Named-clause-followed g c before course x h there may =
    let core = c.args.core.now in
    let m = subst (λ turn. MayFollow turn course core.turn.0 x c.args.prepared c.args.left c.args.longest) c.in-Named.is may in
    subst (λ turn. CourseStands g.S.ClientSession.stands before c.follow_named.new.core c.follow_named.new.out (gone_on c.args.draw.now core.turn.0 course turn)) (sym c.in-Named.is)
    (c.follow_named.ensures.followed before course h (name_here c.args.longest core.turn.0 course x there m.name))

pub returns-in-Exchange-clause-followed : goal.returns-in-Exchange-clause-followed
returns-in-Exchange-clause-followed g c before course x h there may =
    let core = c.args.core.now in
    let m = subst (λ turn. MayFollow turn course core.turn.0 x c.args.prepared c.args.left c.args.longest) c.in-Exchange.is may in
    subst (λ turn. CourseStands g.S.ClientSession.stands before c.follow_message.new.core c.follow_message.new.out (gone_on c.args.draw.now core.turn.0 course turn)) (sym c.in-Exchange.is)
    (c.follow_message.ensures.followed before course x h there m.prepared m.unread m.name)
