use Rattle.std.proofs.Common.{◌+◌, ◌++◌, ◌∷◌, [], length, ap, subst, refl, arith}
use Rattle.vpn_base.specs.declared.names.Timers.{Timers}
use Rattle.vpn_links.specs.Actions.{EngineOpen, Holds}
use Rattle.opcode_codec.specs.declared.opcodes.Opcode.TheVariants.{SoftReset}
use Rattle.control_link.specs.Calls.{Told}
use Rattle.peer_table.specs.ControlPackets.{next_session}
use Rattle.peer_table.specs.KeySessions.{session_begun}
use Rattle.peer_table.specs.Time.{ticking}
use Rattle.peer_lines.specs.Calls.{Leaves, begun_sent, linked, still, unless_wanting}
use Rattle.peer_lines.specs.Standing.{StandsFor}
use Rattle.session_state.specs.Standing.{PeerStands, count}
use Rattle.session_state.proofs.Ends.{ok_value}
use Rattle.peer_session.proofs.Ticking.{begun_came, may_begun, may_blank, may_whole, next_number, not_wanting, reset_sent}
use Rattle.peer_session.proofs.tick.renew.Goals as goal

pub overflow_add-number : goal.overflow_add-number
unfolding count
overflow_add-number g c = omega (arith, c.newest-number.ensures.number, c.requires.few)

pub returns-clause-done : goal.returns-clause-done
unfolding PeerStands begun_sent
returns-clause-done g c = λ before o established idle done.
    let p = o.peer in
    let h = p.envelope in
    let now = c.args.now.0 in
    let s = next_session c.args.next_conn now p in
    let l = reset_sent c.args.next_conn now p in
    let remote = c.remote_sent-remote.ensures p done.left.peer in
    let number = next_number p.sessions c.newest-number.result (c.newest-number.ensures.seen p.sessions done.left.peer.slots_stand) in
    let text_stands = subst (λ (t : Timers). StandsFor c.next_text-text.result (session_begun t c.args.next_conn (length p.sessions) SoftReset now)) done.left.peer.timers_are
    (subst (λ n. StandsFor c.next_text-text.result (session_begun c.args.session.now.timers c.args.next_conn n SoftReset now)) number
    (c.next_text-text.ensures.stands c.args.session.now.timers now (may_blank c.args.session.now c.requires.goes_on))) in
    let left = subst (λ r. Leaves g.W.Wrap.wrapped c.send_ready-answer.new.self c.send_ready-answer.new.env c.add-added.new.self c.send_ready-answer.new.out c.args.to
    (unless_wanting c.send_ready-answer.result (begun_sent s h r now) (still s h))) remote
    (c.send_ready-answer.ensures.left s h text_stands refl done.left.peer.envelope_stands) in
    let told = subst (λ r. Told c.send_ready-answer.result (begun_sent s h r now).end) remote
    (c.send_ready-answer.ensures.answer s h text_stands refl done.left.peer.envelope_stands) in
    let added : Holds c.add-added.new.self (c.args.out.now.effects ++ EngineOpen c.args.next_conn c.args.session.now.role ∷ []) c.args.out.now.staged =
    ok_value c.add-added.result _ (c.add-added.ensures.fits (omega (arith, c.requires.room.effects_fit)) (omega arith)) c.add-added.ensures.ok in
    let sent = subst (Leaves g.W.Wrap.wrapped c.send_ready-answer.new.self c.send_ready-answer.new.env c.add-added.new.self c.send_ready-answer.new.out c.args.to)
    (not_wanting c.send_ready-answer.result (linked s l) (still s h)
    (c.send_ready-answer.ensures.fits (record {
      effects_fit = omega (arith, c.requires.room.effects_fit, c.add-added.ensures.spare.0);
      bytes_fit = omega (arith, c.requires.room.bytes_fit, c.add-added.ensures.spare.1);
    }))) left in
    let begun = ok_value c.begin_next-begun.result _ (c.begin_next-begun.ensures.fits c.requires.next.place) c.begin_next-begun.ensures.begun in
    begun_came g.W.Wrap.wrapped c.args.session.now c.send_ready-answer.new.env c.begin_next-begun.new.self c.next_text-text.new.blank c.send_ready-answer.new.self c.args.turn c.turn_of.result
    c.first_over-turn.result c.is_end-session.result before c.args.out.now c.add-added.new.self c.send_ready-answer.new.out c.args.to (ticking now c.args.next_conn established idle) o
    c.requires.over done added sent
    (begun p.sessions (record s { link = l.link }) done.left.peer.slots_stand
    (c.begin.ensures.stands (record s { link = l.link }) sent.session (record { began = refl; is_open = refl; stage = refl })))
    (c.begin_next-begun.ensures.whole (may_whole c.args.session.now c.requires.goes_on))
    (c.turn_of.ensures l.end told) c.first_over-turn.ensures c.is_end-session.ensures

pub returns-clause-goes_on : goal.returns-clause-goes_on
returns-clause-goes_on g c =
    may_begun c.args.session.now c.send_ready-answer.new.env c.begin_next-begun.new.self c.next_text-text.new.blank c.is_end-session.result c.requires.goes_on
    (c.begin_next-begun.ensures.whole (may_whole c.args.session.now c.requires.goes_on)) c.next_text-text.ensures.taken

pub returns-clause-count : goal.returns-clause-count
unfolding count
returns-clause-count g c =
    ap (λ n. n + 1) (ok_value c.begin_next-begun.result _ (c.begin_next-begun.ensures.fits c.requires.next.place) c.begin_next-begun.ensures.number)
