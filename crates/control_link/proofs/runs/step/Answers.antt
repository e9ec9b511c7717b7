use Rattle.control_link.specs.Calls.{Outcome}
use Rattle.control_link.specs.Runs.{after_event, event_comes}
use Rattle.control_link.proofs.RunLaws.{at_after}
use Rattle.control_link.proofs.runs.step.Goals as goal

pub returns-in-Ok-read_texts-clause-at : goal.returns-in-Ok-read_texts-clause-at
unfolding after_event
returns-in-Ok-read_texts-clause-at g c = λ course at.
    let o : Outcome = event_comes course.link course.envelope c.args.event.now c.args.setup.now.remote c.args.now.0 in
    let left = c.in-Ok.ensures.left course.link course.envelope at.link at.envelope in
    at_after g.W.Wrap.wrapped c.args.link.now c.take_event.new.link c.read_texts.new.link c.args.env.now c.take_event.new.env c.args.out.now c.take_event.new.out c.args.text.now.items c.read_texts.new.text.items
    c.args.setup.now.to course o at left (c.in-Ok-read_texts.ensures.stands o.link left.link) (c.in-Ok-read_texts.ensures.text o.link left.link)
