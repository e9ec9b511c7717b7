use Rattle.control_link.specs.Calls.{said}
use Rattle.peer_lines.specs.Calls.{text_offered}
use Rattle.peer_lines.specs.Standing.{StandsFor}
use Rattle.peer_lines.proofs.Links.{frame_said, linked_left, still_open}
use Rattle.peer_lines.proofs.channels.SessionChannels.say.Goals as goal

pub returns-clause-left : goal.returns-clause-left
unfolding StandsFor text_offered
returns-clause-left g c = λ s h stands is_open wraps.
    linked_left g.W.Wrap.wrapped c.args.self.now c.say.new.self c.say.new.env c.args.out.now c.say.new.out c.args.to s h
    (said s.link h c.args.bytes.now c.args.remote c.args.now.0) c.say.result stands (frame_said s.link h c.args.bytes.now c.args.remote c.args.now.0)
    (c.say.ensures.left (still_open c.args.self.now.link s.link stands.link is_open) s.link h stands.link wraps)

pub returns-clause-answer : goal.returns-clause-answer
unfolding StandsFor text_offered
returns-clause-answer g c = λ s h stands is_open wraps. c.say.ensures.answer (still_open c.args.self.now.link s.link stands.link is_open) s.link h stands.link wraps
