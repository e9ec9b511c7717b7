use Rattle.control_link.specs.Calls.{ticked}
use Rattle.peer_lines.specs.Calls.{due_sent}
use Rattle.peer_lines.specs.Standing.{StandsFor}
use Rattle.peer_lines.proofs.Links.{frame_ticked, linked_left, still_open}
use Rattle.peer_lines.proofs.channels.SessionChannels.tick.Goals as goal

pub returns-clause-left : goal.returns-clause-left
unfolding StandsFor due_sent
returns-clause-left g c = λ s h stands is_open wraps.
    linked_left g.W.Wrap.wrapped c.args.self.now c.tick.new.self c.tick.new.env c.args.out.now c.tick.new.out c.args.to s h
    (ticked s.link h c.args.remote c.args.now.0) c.tick.result stands (frame_ticked s.link h c.args.remote c.args.now.0)
    (c.tick.ensures.left (still_open c.args.self.now.link s.link stands.link is_open) s.link h stands.link wraps)

pub returns-clause-answer : goal.returns-clause-answer
unfolding StandsFor due_sent
returns-clause-answer g c = λ s h stands is_open wraps. c.tick.ensures.answer (still_open c.args.self.now.link s.link stands.link is_open) s.link h stands.link wraps
