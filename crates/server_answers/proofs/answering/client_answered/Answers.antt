use Rattle.std.proofs.Common.{None, sym, subst, ◌∙◌}
use Rattle.server_table.specs.Engine.{answer_for}
use Rattle.server_state.specs.Core.{CourseStands}
use Rattle.server_answers.proofs.Readied.{ahead_turned, either, both_err, on_err, on_ok, outbox_same, stays_beside, turn_begun}
use Rattle.server_answers.proofs.answering.client_answered.Goals as goal

pub returns-in_default-clause-came : goal.returns-in_default-clause-came
returns-in_default-clause-came g c before course h =
    let means = g.S.ClientSession.stands in
    let core = c.args.core.now in
    let held = c.give_back_held.new.core in
    let same = stays_beside means g.S.ClientSession.goes_on g.S.ClientSession.count g.S.ClientSession.since core held core.routes held.pool None c.give_back_held.ensures.only
    c.give_back_held.ensures.stands in
    let begun = turn_begun means held c.args.cid before c.args.out.now course (same.same before c.args.out.now course h) c.requires.alone (same.mark ∙ c.requires.mark) in
    subst (λ o. CourseStands means before (record held { turn = c.args.cid }) c.args.out.now (answer_for c.args.draw.now c.args.kind.now c.args.cid.0 course o))
    (sym (c.places_tell_of_clients.ensures.nobody (record held { turn = c.args.cid }) course.table c.args.cid.0 begun.table (sym c.place.ensures.place ∙ c.in_default.is))) begun

pub returns-in_default-clause-sound : goal.returns-in_default-clause-sound
returns-in_default-clause-sound g c =
    let core = c.args.core.now in
    let held = c.give_back_held.new.core in
    let same = stays_beside g.S.ClientSession.stands g.S.ClientSession.goes_on g.S.ClientSession.count g.S.ClientSession.since core held core.routes held.pool None
    c.give_back_held.ensures.only c.give_back_held.ensures.stands in
    c.a_core_ahead_is_sound.ensures (record held { turn = c.args.cid })
    (ahead_turned g.S.ClientSession.stands held c.args.cid g.S.ClientSession.goes_on g.S.ClientSession.count g.S.ClientSession.since (same.ahead c.requires.sound))

pub answered_at-requires-clause-at : goal.answered_at-requires-clause-at
answered_at-requires-clause-at g c = record { place = sym c.place.ensures.place ∙ c.in-Some.is; within = c.in-Some.ensures.within }

pub answered_at-requires-clause-sound : goal.answered_at-requires-clause-sound
answered_at-requires-clause-sound g c =
    let core = c.args.core.now in
    let held = c.give_back_held.new.core in
    let same = stays_beside g.S.ClientSession.stands g.S.ClientSession.goes_on g.S.ClientSession.count g.S.ClientSession.since core held core.routes held.pool None
    c.give_back_held.ensures.only c.give_back_held.ensures.stands in
    ahead_turned g.S.ClientSession.stands held c.args.cid g.S.ClientSession.goes_on g.S.ClientSession.count g.S.ClientSession.since (same.ahead c.requires.sound)

pub returns-clause-came : goal.returns-clause-came
returns-clause-came g c =
    let means = g.S.ClientSession.stands in
    let core = c.args.core.now in
    let held = c.give_back_held.new.core in
    let turned = record held { turn = c.args.cid } in
    let same = stays_beside means g.S.ClientSession.goes_on g.S.ClientSession.count g.S.ClientSession.since core held core.routes held.pool None c.give_back_held.ensures.only
    c.give_back_held.ensures.stands in
    on_ok c.answered_at.result c.answered_at.ensures.came
    (λ came before course h.
    let begun = turn_begun means held c.args.cid before c.args.out.now course (same.same before c.args.out.now course h) c.requires.alone (same.mark ∙ c.requires.mark) in
    let l = c.places_tell_of_clients.ensures.there turned course.table c.args.cid.0 c.in-Some.i begun.table (sym c.place.ensures.place ∙ c.in-Some.is) in
    subst (λ o. CourseStands means before c.answered_at.new.core c.answered_at.new.out (answer_for c.args.draw.now c.args.kind.now c.args.cid.0 course o)) (sym l.client_there)
    (came before course l.client begun l.client_there))

pub returns-clause-kept : goal.returns-clause-kept
returns-clause-kept g c =
    let means = g.S.ClientSession.stands in
    let core = c.args.core.now in
    let held = c.give_back_held.new.core in
    let turned = record held { turn = c.args.cid } in
    let same = stays_beside means g.S.ClientSession.goes_on g.S.ClientSession.count g.S.ClientSession.since core held core.routes held.pool None c.give_back_held.ensures.only
    c.give_back_held.ensures.stands in
    both_err c.answered_at.result c.answered_at.ensures.stays c.answered_at.ensures.outbox
    (λ stays outbox before course h.
    let begun = turn_begun means held c.args.cid before c.args.out.now course (same.same before c.args.out.now course h) c.requires.alone (same.mark ∙ c.requires.mark) in
    outbox_same means before c.answered_at.new.core c.args.out.now c.answered_at.new.out course (stays.same before c.args.out.now course begun) outbox)

pub returns-clause-sound : goal.returns-clause-sound
returns-clause-sound g c =
    let core = c.args.core.now in
    let held = c.give_back_held.new.core in
    let same = stays_beside g.S.ClientSession.stands g.S.ClientSession.goes_on g.S.ClientSession.count g.S.ClientSession.since core held core.routes held.pool None
    c.give_back_held.ensures.only c.give_back_held.ensures.stands in
    either c.answered_at.result c.answered_at.ensures.sound c.answered_at.ensures.stays (λ sound. sound)
    (λ stays. stays.ahead (ahead_turned g.S.ClientSession.stands held c.args.cid g.S.ClientSession.goes_on g.S.ClientSession.count g.S.ClientSession.since (same.ahead c.requires.sound)))

pub returns-clause-still : goal.returns-clause-still
returns-clause-still g c =
    let core = c.args.core.now in
    let held = c.give_back_held.new.core in
    let same = stays_beside g.S.ClientSession.stands g.S.ClientSession.goes_on g.S.ClientSession.count g.S.ClientSession.since core held core.routes held.pool None
    c.give_back_held.ensures.only c.give_back_held.ensures.stands in
    on_err c.answered_at.result c.answered_at.ensures.stays (λ stays moment none. stays.told moment (same.told moment none))

pub returns-clause-events : goal.returns-clause-events
returns-clause-events g c =
    let core = c.args.core.now in
    let held = c.give_back_held.new.core in
    let same = stays_beside g.S.ClientSession.stands g.S.ClientSession.goes_on g.S.ClientSession.count g.S.ClientSession.since core held core.routes held.pool None
    c.give_back_held.ensures.only c.give_back_held.ensures.stands in
    on_err c.answered_at.result c.answered_at.ensures.stays (λ stays. stays.events ∙ same.events)
