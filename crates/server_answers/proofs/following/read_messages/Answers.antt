use Rattle.std.proofs.Common.{sym, subst, ◌∙◌}
use Rattle.server_state.specs.Core.{CourseStands}
use Rattle.server_establishing.specs.Prepared.{IsPrepared}
use Rattle.server_answers.specs.internal.Following.{IfKeyed}
use Rattle.server_answers.proofs.Going.{session_at}
use Rattle.server_answers.proofs.Taken.{none_taken}
use Rattle.server_answers.proofs.Unread.{none_keyless}
use Rattle.server_answers.proofs.following.read_messages.Goals as goal

pub returns-in-None-clause-taken : goal.returns-in-None-clause-taken
returns-in-None-clause-taken g c before course x h there of unread =
    let means = g.S.ClientSession.stands in
    let core = c.args.core.now in
    let n = core.turn.0 in
    let l = c.places_tell_of_clients.ensures.there core course.table n c.args.i h.table c.requires.at.place in
    let keyless = sym (c.cipher.ensures x.session (session_at means core course.table n c.args.i l c.look_at.result.now c.look_at.ensures x there)) ∙ c.in-None.is in
    subst (CourseStands means before core c.args.out.now) (sym (none_taken n course x there (none_keyless x.session keyless))) h

pub returns-in-Some-clause-taken : goal.returns-in-Some-clause-taken
returns-in-Some-clause-taken g c before course x h there of unread =
    let means = g.S.ClientSession.stands in
    let core = c.args.core.now in
    let n = core.turn.0 in
    let l = c.places_tell_of_clients.ensures.there core course.table n c.args.i h.table c.requires.at.place in
    let keyed = sym (c.cipher.ensures x.session (session_at means core course.table n c.args.i l c.look_at.result.now c.look_at.ensures x there)) ∙ c.in-Some.is in
    c.take_messages.ensures.taken before course x h there (subst (λ o. IfKeyed o (IsPrepared course n x c.args.prepared)) keyed of) unread
