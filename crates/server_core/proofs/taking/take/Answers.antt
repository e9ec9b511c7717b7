use Rattle.std.proofs.Common.{refl, sym, arith, ◌∙◌}
use Rattle.server_table.specs.Step.{course_begun}
use Rattle.server_core.proofs.Taken.{may_lack, none_begun, stepped, stopped}
use Rattle.server_core.proofs.taking.take.Goals as goal

pub returns-then-is_over-clause-stepped : goal.returns-then-is_over-clause-stepped
returns-then-is_over-clause-stepped g c t h =
    stopped g.S.ClientSession.stands c.args.core.now c.args.out.now t c.args.event.now (sym (c.is_over.ensures.over t h) ∙ c.if-is_over.true) h c.requires.alone

pub came-requires-clause-counted : goal.came-requires-clause-counted
came-requires-clause-counted g c = let one = c.begin.ensures.events in omega (arith, one)

pub came-requires-clause-few : goal.came-requires-clause-few
came-requires-clause-few g c = let one = c.begin.ensures.events in let few = c.is_over.ensures.few c.if-is_over.false in omega (arith, one, few)

pub came-requires-clause-sound : goal.came-requires-clause-sound
came-requires-clause-sound g c = c.begin.ensures.sound c.requires.sound

pub returns-in-Ok-came-clause-stepped : goal.returns-in-Ok-came-clause-stepped
returns-in-Ok-came-clause-stepped g c t h =
    let before = c.args.out.now.effects in
    let same = c.reserve.ensures.same in
    let begun = c.begin.ensures.begun before t c.args.event.now c.reserve.new.self h refl same.0 (same.1 ∙ c.requires.alone) in
    stepped g.S.ClientSession.stands before c.came.new.core c.came.new.out c.settle.new.self c.settle.ensures.settled t c.args.event.now
    (sym (c.is_over.ensures.over t h) ∙ c.if-is_over.false) c.in-Ok-came.field-0 (c.in-Ok-came.ensures.came before (course_begun t c.args.event.now) begun)

pub returns-in-Err-came-clause-unchanged : goal.returns-in-Err-came-clause-unchanged
returns-in-Err-came-clause-unchanged g c t h =
    let before = c.args.out.now.effects in
    let same = c.reserve.ensures.same in
    let begun = c.begin.ensures.begun before t c.args.event.now c.reserve.new.self h refl same.0 (same.1 ∙ c.requires.alone) in
    c.take_back.ensures.back before c.came.new.out t c.args.event.now (c.in-Err-came.ensures.kept before (course_begun t c.args.event.now) begun) h.moment h.last_taken

pub returns-in-Err-came-clause-lacking : goal.returns-in-Err-came-clause-lacking
returns-in-Err-came-clause-lacking g c room t h =
    let before = c.args.out.now.effects in
    let same = c.reserve.ensures.same in
    let begun = c.begin.ensures.begun before t c.args.event.now c.reserve.new.self h refl same.0 (same.1 ∙ c.requires.alone) in
    let wants = c.in-Err-came.ensures.lacking before (course_begun t c.args.event.now) begun refl in
    may_lack t c.args.event.now (sym (c.is_over.ensures.over t h) ∙ c.if-is_over.false) wants.0 wants.1

pub returns-in-Err-came-clause-sound : goal.returns-in-Err-came-clause-sound
returns-in-Err-came-clause-sound g c =
    let was = c.args.core.now in
    c.take_back.ensures.sound c.in-Err-came.ensures.sound
    (c.in-Err-came.ensures.still was.moment.0
    (none_begun g.S.ClientSession.goes_on g.S.ClientSession.count g.S.ClientSession.since was c.begin.new.core c.requires.sound c.begin.ensures.clients)) c.requires.sound.late
