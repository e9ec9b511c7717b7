use Rattle.std.proofs.Common.{◌≡◌, false, None}
use Rattle.control_link.specs.internal.Courses.{IsAt}
use Rattle.control_link.proofs.RunLaws.{course_at}
use Rattle.control_link.proofs.runs.run_link.Given as goal

abbrev pub invariant-loop-event : goal.invariant-loop-event
invariant-loop-event g l = record {
  at : IsAt g.W.Wrap.wrapped l.link l.env l.outbox l.text.items l.setup.to (course_at l.event-index (g.W.Wrap.wrapped l.fn.wrap) l.setup l.events);
  end : (course_at l.event-index (g.W.Wrap.wrapped l.fn.wrap) l.setup l.events).end ≡ None;
  open_still : l.link.spent ≡ false;
}
