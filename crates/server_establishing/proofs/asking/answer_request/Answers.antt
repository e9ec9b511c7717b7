use Rattle.std.proofs.Common.{sym, ap, subst, ◌∙◌}
use Rattle.server_table.specs.Exchange.{requested_as}
use Rattle.server_table.specs.Lookups.{client_here}
use Rattle.server_state.specs.Core.{CourseStands}
use Rattle.server_establishing.specs.Prepared.{IsPrepared}
use Rattle.server_establishing.proofs.asking.answer_request.Goals as goal

pub returns-in-New-clause-requested : goal.returns-in-New-clause-requested
returns-in-New-clause-requested g c before course x h there prepared =
    let of = subst (IsPrepared course c.args.cid.0 x) c.in-New.is prepared in
    subst (λ o. CourseStands g.S.ClientSession.stands before c.establish_new.new.core c.establish_new.new.out (requested_as c.args.cid.0 c.args.conn x course o))
    (sym of.not_yet) (c.establish_new.ensures.established before course x h there of)

pub returns-in-New-clause-prepared : goal.returns-in-New-clause-prepared
returns-in-New-clause-prepared g c course x y there prepared is =
    let of = subst (IsPrepared course c.args.cid.0 x) c.in-New.is prepared in
    subst (λ o. IsPrepared (requested_as c.args.cid.0 c.args.conn x course o) c.args.cid.0 y c.establish_new.result) (sym of.not_yet)
    (c.establish_new.ensures.prepared course x y there of
    (ap (λ o. client_here (requested_as c.args.cid.0 c.args.conn x course o).table c.args.cid.0) (sym of.not_yet) ∙ is))

pub returns-in-Again-clause-requested : goal.returns-in-Again-clause-requested
returns-in-Again-clause-requested g c before course x h there prepared =
    let of = subst (IsPrepared course c.args.cid.0 x) c.in-Again.is prepared in
    subst (λ o. CourseStands g.S.ClientSession.stands before c.args.core.now c.reply_again.new.out (requested_as c.args.cid.0 c.args.conn x course o))
    (sym of.established) (c.reply_again.ensures.replied before course x of.when h there of.again)
