use Rattle.std.proofs.Common.{◌≡◌, ◌≤◌, ◌+◌, List, length, sym, ap, subst, ◌∙◌}
use Rattle.control_link.specs.declared.runs.LinkRun.{LinkRun}
use Rattle.control_link.specs.Calls.{datagrams_to}
use Rattle.control_link.specs.Runs.{Course, EventAt, after_event, course_of}
use Rattle.control_link.specs.internal.Courses.{IsAt}
use Rattle.tls_crypt.specs.Packets.{Wrapping}
use Rattle.control_link.proofs.RunLaws.{course_at, course_ended, course_next, course_whole, told_still}
use Rattle.control_link.proofs.RunTexts.{course_text}
use Rattle.control_link.proofs.runs.run_link.Goals as goal

pub loop-event-preserved : goal.loop-event-preserved
loop-event-preserved g c =
    let i = c.loop-event.event-index in
    let setup = c.args.setup.now in
    let events : List EventAt = c.args.events.now in
    let wraps : Wrapping = g.W.Wrap.wrapped c.args.wrap in
    let e : EventAt = c.loop-event-item.result in
    let before : Course = course_at i wraps setup events in
    let next : course_at (i + 1) wraps setup events ≡ after_event setup.remote before e = course_next i wraps setup events e c.loop-event-test.true c.loop-event-item.is in
    record {
      at = subst (λ (course : Course). IsAt g.W.Wrap.wrapped c.step.new.link c.step.new.env c.step.new.out c.step.new.text.items setup.to course) (sym next) (c.in-Ok-step.ensures.at before c.loop-event.invariant.at);
      end = ap (λ (course : Course). course.end) next ∙ c.in-Ok-step.ensures.ended before c.loop-event.invariant.at c.loop-event.invariant.end;
      open_still = c.in-Ok-step.ensures.open;
    }

pub returns-in-Err-step-clause-ended : goal.returns-in-Err-step-clause-ended
returns-in-Err-step-clause-ended g c =
    let i = c.loop-event.event-index in
    let setup = c.args.setup.now in
    let events : List EventAt = c.args.events.now in
    let wraps : Wrapping = g.W.Wrap.wrapped c.args.wrap in
    let e : EventAt = c.loop-event-item.result in
    let before : Course = course_at i wraps setup events in
    let next : course_at (i + 1) wraps setup events ≡ after_event setup.remote before e = course_next i wraps setup events e c.loop-event-test.true c.loop-event-item.is in
    told_still (Unit {0}) LinkRun c.in-Err-step.fault (after_event setup.remote before e).end (course_of wraps setup events).end
    (λ end is. course_ended (i + 1) wraps setup events end (ap (λ (course : Course). course.end) next ∙ is))
    (c.in-Err-step.ensures.ended before c.loop-event.invariant.at c.loop-event.invariant.end)

pub returns-clause-staged : goal.returns-clause-staged
returns-clause-staged g c =
    let all : length c.args.events.now ≤ c.loop-event.event-index = c.loop-event-test.false in
    c.loop-event.invariant.at.outbox.1
    ∙ ap (λ (course : Course). datagrams_to c.args.setup.now.to course.datagrams) (course_whole c.loop-event.event-index (g.W.Wrap.wrapped c.args.wrap) c.args.setup.now c.args.events.now all)

pub returns-clause-text : goal.returns-clause-text
returns-clause-text g c =
    let all : length c.args.events.now ≤ c.loop-event.event-index = c.loop-event-test.false in
    c.of.ensures ∙ c.loop-event.invariant.at.text
    ∙ ap (λ (course : Course). course.text) (course_whole c.loop-event.event-index (g.W.Wrap.wrapped c.args.wrap) c.args.setup.now c.args.events.now all)
    ∙ course_text
    (record {
      begun = c.reads_what_is_given.ensures.begun;
      none = c.reads_what_is_given.ensures.none;
      still = c.reads_what_is_given.ensures.still;
      whole = c.reads_what_is_given.ensures.whole;
      given = λ l h v remote now up. record { text = c.reads_what_is_given.ensures.given l h v remote now up; taken = c.reads_what_is_given.ensures.taken l h v remote now up; up = c.reads_what_is_given.ensures.again l h v remote now up };
      said = c.reads_what_is_given.ensures.said;
      ticked = c.reads_what_is_given.ensures.ticked;
    })
    (g.W.Wrap.wrapped c.args.wrap) c.args.setup.now c.args.events.now

pub returns-clause-ended : goal.returns-clause-ended
returns-clause-ended g c =
    let all : length c.args.events.now ≤ c.loop-event.event-index = c.loop-event-test.false in
    sym (ap (λ (course : Course). course.end) (course_whole c.loop-event.event-index (g.W.Wrap.wrapped c.args.wrap) c.args.setup.now c.args.events.now all)) ∙ c.loop-event.invariant.end
