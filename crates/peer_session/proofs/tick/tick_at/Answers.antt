use Rattle.std.proofs.Common.{ap, sym, subst, ◌∙◌}
use Rattle.std.specs.Prelude.{is_some}
use Rattle.control_link.specs.Calls as link
use Rattle.control_link.specs.Calls.{Told}
use Rattle.peer_table.specs.Peer.{remote_of}
use Rattle.peer_lines.specs.Calls.{Leaves, due_sent, linked, still, unless_wanting}
use Rattle.session_state.specs.Standing.{PeerStands}
use Rattle.session_state.proofs.Keeping.{not_there}
use Rattle.session_state.proofs.Lines.{ticked_keeps}
use Rattle.peer_session.proofs.Ticking.{line_came, may_whole, may_with, not_wanting}
use Rattle.peer_session.proofs.tick.tick_at.Goals as goal

pub take_text-requires : goal.take_text-requires
take_text-requires g c = may_whole c.args.session.now c.requires.goes_on

pub returns-in-None-clause-done : goal.returns-in-None-clause-done
unfolding PeerStands
returns-in-None-clause-done g c = λ before o s done at is_open spent.
    absurd (not_there o.peer.sessions c.args.number s (ap is_some (sym c.in-None.is) ∙ c.take_text.ensures.some o.peer.sessions done.left.peer.slots_stand) at is_open)

pub returns-in-None-clause-goes_on : goal.returns-in-None-clause-goes_on
returns-in-None-clause-goes_on g c =
    may_with c.args.session.now c.args.session.now.envelope c.take_text.new.self c.args.session.now.is_over c.requires.goes_on c.in-None.ensures.none

pub returns-in-Some-clause-done : goal.returns-in-Some-clause-done
unfolding PeerStands due_sent
returns-in-Some-clause-done g c = λ before o s done at is_open spent.
    let h = o.peer.envelope in
    let l = link.ticked s.link h (remote_of o.peer) c.args.now.0 in
    let remote = c.remote_sent-remote.ensures o.peer done.left.peer in
    let text_stands = c.in-Some.ensures.text o.peer.sessions s done.left.peer.slots_stand at in
    let left = subst (λ r. Leaves g.W.Wrap.wrapped c.tick-answer.new.self c.tick-answer.new.env c.args.out.now c.tick-answer.new.out c.args.to
    (unless_wanting c.tick-answer.result (due_sent s h r c.args.now.0) (still s h))) remote
    (c.tick-answer.ensures.left s h text_stands spent done.left.peer.envelope_stands) in
    let told = subst (λ r. Told c.tick-answer.result (due_sent s h r c.args.now.0).end) remote
    (c.tick-answer.ensures.answer s h text_stands spent done.left.peer.envelope_stands) in
    line_came g.W.Wrap.wrapped c.args.session.now c.tick-answer.new.env c.take_text.new.self c.put_text.new.self c.tick-answer.new.self c.args.turn c.turn_of.result c.first_over-turn.result
    c.is_end-session.result before c.args.out.now c.tick-answer.new.out c.args.to c.args.number s l o c.requires.over done
    (c.take_text.ensures.stands o.peer.sessions done.left.peer.slots_stand) at (record { stands = c.put_text.ensures.stands; whole = c.put_text.ensures.whole })
    (ticked_keeps s.link h (remote_of o.peer) c.args.now.0) spent
    (subst (Leaves g.W.Wrap.wrapped c.tick-answer.new.self c.tick-answer.new.env c.args.out.now c.tick-answer.new.out c.args.to)
    (not_wanting c.tick-answer.result (linked s l) (still s h) (c.tick-answer.ensures.fits c.requires.room)) left)
    (c.turn_of.ensures l.end told) c.first_over-turn.ensures c.is_end-session.ensures

pub returns-in-Some-clause-goes_on : goal.returns-in-Some-clause-goes_on
returns-in-Some-clause-goes_on g c = may_with c.args.session.now c.tick-answer.new.env c.put_text.new.self c.is_end-session.result c.requires.goes_on c.put_text.ensures.whole
