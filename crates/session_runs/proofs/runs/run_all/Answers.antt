use Rattle.std.proofs.Common.{◌≤◌, List, length, take, arith, sym, subst}
use Rattle.session_runs.specs.Runs.{Course, EventAt, after_events}
use Rattle.session_runs.specs.internal.Courses.{IsAt}
use Rattle.session_runs.proofs.Courses.{after_next, after_whole}
use Rattle.session_runs.proofs.runs.run_all.Goals as goal

pub loop-at-preserved : goal.loop-at-preserved
loop-at-preserved g c =
    let i = c.loop-at.at-index in
    let wraps = g.W.Wrap.unwrapped c.args.wrap.now in
    let events : List EventAt = c.args.events.now in
    let e : EventAt = c.loop-at-item.result in
    let few = c.loop-at.invariant.few in
    let more = c.in-Ok.ensures.count in
    record {
      stood = λ effects staged course at.
          subst (λ (next : Course). IsAt g.S.ClientSession.stands c.step.new.run c.step.new.out effects staged next)
          (sym (after_next wraps c.args.to course i events e c.loop-at-test.true c.loop-at-item.is))
          (c.in-Ok.ensures.at effects staged (after_events wraps c.args.to course (take i events)) (c.loop-at.invariant.stood effects staged course at));
      going = c.in-Ok.ensures.going;
      few = omega (arith, few, more);
      past = c.in-Ok.ensures.past;
    }

pub returns : goal.returns
returns g c effects staged course at =
    let events : List EventAt = c.args.events.now in
    let all : length events ≤ c.loop-at.at-index = c.loop-at-test.false in
    subst (λ (last : Course). IsAt g.S.ClientSession.stands c.loop-at.run c.loop-at.out effects staged last)
    (after_whole (g.W.Wrap.unwrapped c.args.wrap.now) c.args.to course c.loop-at.at-index events all) (c.loop-at.invariant.stood effects staged course at)
