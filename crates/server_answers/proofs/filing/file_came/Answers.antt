use Rattle.std.proofs.Common.{None, sym, subst, ◌∙◌}
use Rattle.server_table.specs.Lookups.{client_here}
use Rattle.server_state.specs.Core.{CourseStands}
use Rattle.server_answers.proofs.Awaited.{awaiting_of, not_waited_for}
use Rattle.server_answers.proofs.Readied.{ahead_turned, both_err, either, on_err, on_ok, outbox_same, stays_beside, turn_begun}
use Rattle.server_answers.proofs.filing.file_came.Goals as goal

pub returns-then-not-is_waited_for-clause-came : goal.returns-then-not-is_waited_for-clause-came
returns-then-not-is_waited_for-clause-came g c before course h =
    subst (CourseStands g.S.ClientSession.stands before c.args.core.now c.report.new.out)
    (sym (not_waited_for c.args.draw.now c.args.id c.args.answer.now course (sym (c.is_waited_for.ensures course.table h.table) ∙ c.if-not-is_waited_for.true)))
    (c.report.ensures.reported before course h)

pub file_given-requires-clause-sound : goal.file_given-requires-clause-sound
file_given-requires-clause-sound g c =
    let core = c.args.core.now in
    let held = c.give_back_held.new.core in
    let same = stays_beside g.S.ClientSession.stands g.S.ClientSession.goes_on g.S.ClientSession.count g.S.ClientSession.since core held core.routes held.pool None
    c.give_back_held.ensures.only c.give_back_held.ensures.stands in
    ahead_turned g.S.ClientSession.stands held c.args.id g.S.ClientSession.goes_on g.S.ClientSession.count g.S.ClientSession.since (same.ahead c.requires.sound)

pub returns-clause-came : goal.returns-clause-came
returns-clause-came g c =
    let means = g.S.ClientSession.stands in
    let core = c.args.core.now in
    let held = c.give_back_held.new.core in
    let same = stays_beside means g.S.ClientSession.goes_on g.S.ClientSession.count g.S.ClientSession.since core held core.routes held.pool None c.give_back_held.ensures.only
    c.give_back_held.ensures.stands in
    on_ok c.file_given.result c.file_given.ensures.came
    (λ came before course h.
    came before course (turn_begun means held c.args.id before c.args.out.now course (same.same before c.args.out.now course h) c.requires.alone (same.mark ∙ c.requires.mark)))

pub returns-clause-kept : goal.returns-clause-kept
returns-clause-kept g c =
    let means = g.S.ClientSession.stands in
    let core = c.args.core.now in
    let held = c.give_back_held.new.core in
    let same = stays_beside means g.S.ClientSession.goes_on g.S.ClientSession.count g.S.ClientSession.since core held core.routes held.pool None c.give_back_held.ensures.only
    c.give_back_held.ensures.stands in
    both_err c.file_given.result c.file_given.ensures.stays c.file_given.ensures.outbox
    (λ stays outbox before course h.
    let begun = turn_begun means held c.args.id before c.args.out.now course (same.same before c.args.out.now course h) c.requires.alone (same.mark ∙ c.requires.mark) in
    outbox_same means before c.file_given.new.core c.args.out.now c.file_given.new.out course (stays.same before c.args.out.now course begun) outbox)

pub returns-clause-sound : goal.returns-clause-sound
returns-clause-sound g c =
    let core = c.args.core.now in
    let held = c.give_back_held.new.core in
    let same = stays_beside g.S.ClientSession.stands g.S.ClientSession.goes_on g.S.ClientSession.count g.S.ClientSession.since core held core.routes held.pool None
    c.give_back_held.ensures.only c.give_back_held.ensures.stands in
    either c.file_given.result c.file_given.ensures.sound c.file_given.ensures.stays (λ sound. sound)
    (λ stays. stays.ahead (ahead_turned g.S.ClientSession.stands held c.args.id g.S.ClientSession.goes_on g.S.ClientSession.count g.S.ClientSession.since (same.ahead c.requires.sound)))

pub returns-clause-still : goal.returns-clause-still
returns-clause-still g c =
    let core = c.args.core.now in
    let held = c.give_back_held.new.core in
    let same = stays_beside g.S.ClientSession.stands g.S.ClientSession.goes_on g.S.ClientSession.count g.S.ClientSession.since core held core.routes held.pool None
    c.give_back_held.ensures.only c.give_back_held.ensures.stands in
    on_err c.file_given.result c.file_given.ensures.stays (λ stays moment none. stays.told moment (same.told moment none))

pub returns-clause-events : goal.returns-clause-events
returns-clause-events g c =
    let core = c.args.core.now in
    let held = c.give_back_held.new.core in
    let same = stays_beside g.S.ClientSession.stands g.S.ClientSession.goes_on g.S.ClientSession.count g.S.ClientSession.since core held core.routes held.pool None
    c.give_back_held.ensures.only c.give_back_held.ensures.stands in
    on_err c.file_given.result c.file_given.ensures.stays (λ stays. stays.events ∙ same.events)

pub returns-clause-lacking : goal.returns-clause-lacking
returns-clause-lacking g c =
    on_err c.file_given.result c.file_given.ensures.stays
    (λ stays before course h fresh.
    let of = awaiting_of (client_here course.table c.args.id.0) (sym (c.is_waited_for.ensures course.table h.table) ∙ c.if-not-is_waited_for.false) in
    c.what_is_done_is_no_refusal.ensures.file c.args.draw.now c.args.id c.args.answer.now course of.client of.name of.there of.file fresh)
