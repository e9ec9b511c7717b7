use Rattle.std.proofs.Common.{refl, subst}
use Rattle.server_table.specs.Establishing.{replaced_unless}
use Rattle.server_state.specs.Core.{CourseStands}
use Rattle.server_establishing.proofs.Replaced.{ahead_then, here_then, in_order}
use Rattle.server_establishing.proofs.establishing.establish.Goals as goal

pub returns-clause-established : goal.returns-clause-established
returns-clause-established g c before course x h there none named file made =
    let n = c.args.cid.0 in
    let name = c.args.ahead.name in
    let then = replaced_unless n name course course.table.settings.duplicate in
    let was = subst (λ name. CourseStands g.S.ClientSession.stands before c.replace.new.core c.replace.new.out
    (replaced_unless n name course course.table.settings.duplicate)) c.as_slice.ensures (c.replace.ensures.replaced before course h) in
    subst (CourseStands g.S.ClientSession.stands before c.establish_now.new.core c.establish_now.new.out) (in_order n name course x there none c.args.conn named)
    (c.establish_now.ensures.established before then x was (here_then n name course x there none)
    (ahead_then n name course x there none c.args.ahead named refl file made))
