use Rattle.std.proofs.Common.{◌≡◌, ◌+◌, ap, subst, arith}
use Rattle.peer_table.specs.ControlPackets.{next_session, sender}
use Rattle.peer_table.specs.KeySessions.{Session}
use Rattle.peer_table.specs.Outboxes.{incoming}
use Rattle.peer_lines.specs.Calls.{Leaves as LineLeaves, packet_taken}
use Rattle.session_state.specs.Standing.{PeerStands, count}
use Rattle.session_control.proofs.Beginning.{begins, begun_answer, begun_left, next_is}
use Rattle.session_state.proofs.Keeping.{whole_of}
use Rattle.session_state.proofs.Seen.{next_number}
use Rattle.session_control.proofs.Taking.{goes_on_after, goes_on_turn, is_not_over, over_of}
use Rattle.session_control.proofs.Wraps.{still_fresh}
use Rattle.session_control.proofs.next.begin_with.Goals as goal

pub overflow_add-number : goal.overflow_add-number
unfolding count
overflow_add-number g c = omega (arith, c.requires.few, c.newest-number.ensures.number)

pub returns-clause-left : goal.returns-clause-left
unfolding PeerStands
returns-clause-left g c = λ p established stands fresh.
    let i = incoming c.args.opened.now c.args.view.now c.args.next_conn established c.args.now in
    let s = next_session c.args.next_conn c.args.now.0 p in
    let o = packet_taken s p.envelope i.form (sender i) c.args.now.0 in
    let same = next_is p c.args.session.now.timers c.args.next_conn (c.newest-number.result.number + 1) c.args.now.0 stands.timers_are
    (next_number p.sessions c.newest-number.result (c.newest-number.ensures.seen p.sessions stands.slots_stand)) in
    let left = subst (λ (t : Session). LineLeaves g.W.Wrap.wrapped c.begin_text-text.result.0 c.begin_text-text.new.env c.open_conn.new.out c.begin_text-text.new.out c.args.to
    (packet_taken t p.envelope i.form (sender i) c.args.now.0)) same
    (c.begin_text-text.ensures.left c.args.session.now.timers p.envelope c.requires.blank_for stands.envelope_stands) in
    let end = subst (λ (t : Session). c.begin_text-text.result.1 ≡ (packet_taken t p.envelope i.form (sender i) c.args.now.0).end) same
    (c.begin_text-text.ensures.end c.args.session.now.timers p.envelope c.requires.blank_for stands.envelope_stands) in
    begun_left g.W.Wrap.wrapped c.args.session.now c.begin_text-text.new.env c.accept_wrap.new.env c.push_next.new.slots c.fixed-session.result c.is_some-session.result c.begin_text-text.result.1
    c.begin_text-text.result.0 c.args.out.now c.open_conn.new.out c.begin_text-text.new.out c.args.to p i stands (is_not_over c.args.session.now c.requires.goes_on)
    c.open_conn.ensures.opened (c.links_go_on.ensures.packet s p.envelope i.form (sender i) c.args.now.0) left end c.is_some-session.ensures
    (c.push_next.ensures.begun p.sessions o.session stands.slots_stand left.session (begins p i)) (c.push_next.ensures.whole stands.whole)
    (c.accept_wrap.ensures o.envelope left.envelope (still_fresh s p.envelope i.form (sender i) c.args.now.0 c.args.opened.now c.args.now fresh))
    c.fixed-session.ensures

pub returns-clause-answer : goal.returns-clause-answer
unfolding PeerStands
returns-clause-answer g c = λ p established stands.
    let i = incoming c.args.opened.now c.args.view.now c.args.next_conn established c.args.now in
    let same = next_is p c.args.session.now.timers c.args.next_conn (c.newest-number.result.number + 1) c.args.now.0 stands.timers_are
    (next_number p.sessions c.newest-number.result (c.newest-number.ensures.seen p.sessions stands.slots_stand)) in
    begun_answer p i c.begin_text-text.result.1 c.turn_of.result
    (subst (λ (t : Session). c.begin_text-text.result.1 ≡ (packet_taken t p.envelope i.form (sender i) c.args.now.0).end) same
    (c.begin_text-text.ensures.end c.args.session.now.timers p.envelope c.requires.blank_for stands.envelope_stands))
    c.turn_of.ensures

pub returns-clause-goes_on : goal.returns-clause-goes_on
returns-clause-goes_on g c = goes_on_turn c.begin_text-text.result.1 c.turn_of.result _ c.turn_of.ensures
    (λ none. goes_on_after c.args.session.now c.accept_wrap.new.env c.push_next.new.slots c.fixed-session.result c.is_some-session.result c.requires.goes_on
    (over_of c.is_some-session.result c.begin_text-text.result.1 c.is_some-session.ensures none) (c.push_next.ensures.whole (whole_of c.args.session.now c.requires.goes_on)))

pub returns-clause-count : goal.returns-clause-count
unfolding count
returns-clause-count g c = ap (λ n. n + 1) c.push_next.ensures.number
