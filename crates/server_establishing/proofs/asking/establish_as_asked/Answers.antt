use Rattle.std.proofs.Common.{None, Some, sym, ap, subst, ◌∙◌}
use Rattle.server_table.specs.Courses.{Course}
use Rattle.server_table.specs.Lookups.{client_here}
use Rattle.server_state.specs.Core.{CourseStands}
use Rattle.server_establishing.specs.Prepared.{IsAwaited, IsPrepared}
use Rattle.server_establishing.proofs.Asked.{as_asked}
use Rattle.server_establishing.proofs.Placed.{some_is}
use Rattle.server_establishing.proofs.asking.establish_as_asked.Goals as goal

pub returns-in-None-clause-established : goal.returns-in-None-clause-established
returns-in-None-clause-established g c before course x h there prepared =
    let n = c.args.cid.0 in
    let of = subst (IsPrepared course n x) c.in-New.is prepared in
    subst (CourseStands g.S.ClientSession.stands before c.args.core.now c.args.out.now)
    (sym (as_asked n course x None of.not_yet (sym (c.asked_on.ensures course.table x h.table there) ∙ c.in-None.is))) h

pub returns-in-None-clause-prepared : goal.returns-in-None-clause-prepared
returns-in-None-clause-prepared g c course x y h there prepared is =
    let n = c.args.cid.0 in
    let of = subst (IsPrepared course n x) c.in-New.is prepared in
    let same = as_asked n course x None of.not_yet (sym (c.asked_on.ensures course.table x h there) ∙ c.in-None.is) in
    let one = some_is x y (sym there ∙ ap (λ (c : Course). client_here c.table n) (sym same) ∙ is) in
    subst (λ course. IsAwaited course n y c.in-New.ahead) (sym same) (subst (λ x. IsAwaited course n x c.in-New.ahead) one of)

pub returns-in-Some-clause-established : goal.returns-in-Some-clause-established
returns-in-Some-clause-established g c before course x h there prepared =
    let n = c.args.cid.0 in
    let of = subst (IsPrepared course n x) c.in-New.is prepared in
    subst (CourseStands g.S.ClientSession.stands before c.establish_new.new.core c.establish_new.new.out)
    (sym (as_asked n course x (Some c.in-Some.conn) of.not_yet (sym (c.asked_on.ensures course.table x h.table there) ∙ c.in-Some.is)))
    (c.establish_new.ensures.established before course x h there of)

pub returns-in-Some-clause-prepared : goal.returns-in-Some-clause-prepared
returns-in-Some-clause-prepared g c course x y h there prepared is =
    let n = c.args.cid.0 in
    let of = subst (IsPrepared course n x) c.in-New.is prepared in
    let same = as_asked n course x (Some c.in-Some.conn) of.not_yet (sym (c.asked_on.ensures course.table x h there) ∙ c.in-Some.is) in
    subst (λ course. IsPrepared course n y c.establish_new.result) (sym same)
    (c.establish_new.ensures.prepared course x y there of (ap (λ (c : Course). client_here c.table n) (sym same) ∙ is))
