use Rattle.std.proofs.Common.{ap}
use Rattle.session_runs.proofs.Courses.{at_after, at_end}
use Rattle.session_runs.proofs.runs.step.Goals as goal

pub returns-then-run-clause-at : goal.returns-then-run-clause-at
returns-then-run-clause-at g c effects staged course at =
    at_end g.S.ClientSession.stands c.args.run.now c.args.out.now effects staged course (g.W.Wrap.unwrapped c.args.wrap.now) c.args.to (c.args.at, c.args.event.now) at c.if-run.true

pub returns-clause-at : goal.returns-clause-at
returns-clause-at g c effects staged course at =
    at_after g.S.ClientSession.stands c.args.run.now
    (record { session = c.event_comes.new.session; latest = record { 0 = c.max.result }; is_over = c.is_end-run.result; answers = c.push.new.self })
    c.args.out.now c.event_comes.new.out effects staged course (g.W.Wrap.unwrapped c.args.wrap.now) c.args.to (c.args.at, c.args.event.now) c.in-Ok.answer
    at c.if-run.false (ap (λ n. record { 0 = n }) c.max.ensures) (c.in-Ok.ensures.comes course.peer at.peer) c.is_end-run.ensures c.in_ok-push.ensures.items
