use Rattle.std.proofs.Common.{[]}
use Rattle.control_link.specs.Calls.{with_ready}
use Rattle.peer_lines.specs.Calls.{begun_sent}
use Rattle.peer_lines.specs.Standing.{StandsFor}
use Rattle.peer_lines.proofs.Links.{frame_ready, linked_left, still_open}
use Rattle.peer_lines.proofs.channels.SessionChannels.send_ready.Goals as goal

pub returns-clause-left : goal.returns-clause-left
unfolding StandsFor begun_sent
returns-clause-left g c = λ s h stands is_open wraps.
    linked_left g.W.Wrap.wrapped c.args.self.now c.send_ready.new.self c.send_ready.new.env c.args.out.now c.send_ready.new.out c.args.to s h
    (with_ready s.link h [] c.args.remote c.args.now.0) c.send_ready.result stands (frame_ready s.link h c.args.remote c.args.now.0)
    (c.send_ready.ensures.left (still_open c.args.self.now.link s.link stands.link is_open) s.link h stands.link wraps)

pub returns-clause-answer : goal.returns-clause-answer
unfolding StandsFor begun_sent
returns-clause-answer g c = λ s h stands is_open wraps. c.send_ready.ensures.answer (still_open c.args.self.now.link s.link stands.link is_open) s.link h stands.link wraps
