use Rattle.std.proofs.Common.{◌≡◌, Some, sym, subst, ◌∙◌}
use Rattle.server_table.specs.Courses.{Course}
use Rattle.server_table.specs.Lookups.{client_here}
use Rattle.server_table.specs.Table.{Client, Established, Table}
use Rattle.server_state.specs.Core.{CoreStands}
use Rattle.server_answers.specs.internal.Ahead.{IsAgain, IsMadeAs, IsReadied, NameFound}
use Rattle.server_answers.proofs.Looked.{readied_again, readied_new}
use Rattle.server_answers.proofs.Readied.{if_ok}
use Rattle.server_answers.proofs.ahead.prepare_at.Goals as goal

pub returns-then-is_established-clause-readied : goal.returns-then-is_established-clause-readied
returns-then-is_established-clause-readied g c =
    let means = g.S.ClientSession.stands in
    let core = c.args.core.now in
    let n = core.turn.0 in
    if_ok (λ p. (t : Table) (x : Client) (e : Established) → CoreStands means core t → client_here t n ≡ Some x → x.established ≡ Some e → IsAgain t x p)
    (λ p. (course : Course) (x : Client) → CoreStands means core course.table → client_here course.table n ≡ Some x → IsReadied c.args.kind.now course n x p)
    c.prepare_reply.result c.prepare_reply.ensures.again
    (λ p of course x h there.
    readied_again c.args.kind.now course n x p (sym (c.is_established.ensures course.table x h there) ∙ c.if-is_established.true)
    (sym (c.has_name.ensures course.table x h there) ∙ c.if-not-has_name.false) (λ e is. of course.table x e h there is))

pub returns-in_default-clause-readied : goal.returns-in_default-clause-readied
returns-in_default-clause-readied g c course x h there = subst (NameFound c.args.kind.now x.session) c.in_default.is (c.in-Ok.ensures course.table x h there)

pub returns-clause-readied : goal.returns-clause-readied
returns-clause-readied g c =
    let means = g.S.ClientSession.stands in
    let core = c.args.core.now in
    let n = core.turn.0 in
    if_ok (λ p. (course : Course) → CoreStands means core course.table → IsMadeAs course n c.as_slice.result.now c.in-Ok-file_at.file p)
    (λ p. (course : Course) (x : Client) → CoreStands means core course.table → client_here course.table n ≡ Some x → IsReadied c.args.kind.now course n x p)
    c.prepare_new.result c.prepare_new.ensures.made
    (λ p of course x h there.
    readied_new c.args.kind.now course n x c.in-Some.name c.as_slice.result.now c.in-Ok-file_at.file p (sym (c.is_established.ensures course.table x h there) ∙ c.if-is_established.false)
    c.as_slice.ensures (subst (NameFound c.args.kind.now x.session) c.in-Some.is (c.in-Ok.ensures course.table x h there)) (c.in-Ok-file_at.ensures course.table x h there) (of course h))
