use Rattle.std.proofs.Common.{Err, Result, ap, sym, subst, ◌∙◌}
use Rattle.peer_table.specs.declared.outcomes.Refused.{Refused}
use Rattle.peer_table.specs.declared.outcomes.Refused.TheVariants.{Replayed}
use Rattle.peer_table.specs.declared.outcomes.Turn.{Turn}
use Rattle.peer_table.specs.Outboxes.{Leaves, LeavesUnless, incoming}
use Rattle.peer_table.specs.Peer.{Outcome}
use Rattle.session_state.specs.Standing.{PeerStands}
use Rattle.session_state.proofs.Ends.{if_ok}
use Rattle.session_control.proofs.Placing.{came_fresh, came_stale}
use Rattle.session_control.proofs.Taking.{nothing_left}
use Rattle.session_control.proofs.Wraps.{fresh_of}
use Rattle.session_control.proofs.control.on_control.Goals as goal

pub returns-then-is_fresh-clause-left : goal.returns-then-is_fresh-clause-left
unfolding PeerStands
returns-then-is_fresh-clause-left g c = λ p usables stands.
    let i = incoming c.args.opened.now c.args.view.now c.args.next_conn c.args.established c.args.now in
    let fresh = fresh_of _ (sym (c.is_fresh.ensures p.envelope stands.envelope_stands) ∙ c.if-is_fresh.true) in
    subst (λ (o : Outcome (Result Turn Refused)). LeavesUnless c.place_packet.result (PeerStands g.W.Wrap.wrapped) c.place_packet.new.session c.args.out.now c.place_packet.new.out c.args.to p o)
    (came_fresh p i fresh) (c.place_packet.ensures.left p usables stands fresh)

pub returns-then-is_fresh-clause-answer : goal.returns-then-is_fresh-clause-answer
unfolding PeerStands
returns-then-is_fresh-clause-answer g c = if_ok c.place_packet.result _ _
    (λ answer is p usables stands.
    let i = incoming c.args.opened.now c.args.view.now c.args.next_conn c.args.established c.args.now in
    let fresh = fresh_of _ (sym (c.is_fresh.ensures p.envelope stands.envelope_stands) ∙ c.if-is_fresh.true) in
    is p usables stands fresh ∙ ap (λ (o : Outcome (Result Turn Refused)). o.answer) (came_fresh p i fresh))
    c.place_packet.ensures.answer

pub returns-else-is_fresh-clause-left : goal.returns-else-is_fresh-clause-left
unfolding PeerStands
returns-else-is_fresh-clause-left g c = λ p usables stands.
    let i = incoming c.args.opened.now c.args.view.now c.args.next_conn c.args.established c.args.now in
    subst (λ (o : Outcome (Result Turn Refused)). Leaves (PeerStands g.W.Wrap.wrapped) c.args.session.now c.args.out.now c.args.out.now c.args.to o)
    (came_stale p i (sym (c.is_fresh.ensures p.envelope stands.envelope_stands) ∙ c.if-is_fresh.false))
    (nothing_left (PeerStands g.W.Wrap.wrapped) c.args.session.now c.args.out.now c.args.to p (Err (Replayed i.packet.time i.packet.id)) stands)

pub returns-else-is_fresh-clause-answer : goal.returns-else-is_fresh-clause-answer
unfolding PeerStands
returns-else-is_fresh-clause-answer g c = λ p usables stands.
    let i = incoming c.args.opened.now c.args.view.now c.args.next_conn c.args.established c.args.now in
    ap (λ (o : Outcome (Result Turn Refused)). o.answer) (came_stale p i (sym (c.is_fresh.ensures p.envelope stands.envelope_stands) ∙ c.if-is_fresh.false))
