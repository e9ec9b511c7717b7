use Rattle.std.proofs.Common.{◌%◌, Result, ap, sym, subst, ◌∙◌}
use Rattle.vpn_base.specs.declared.names.Timers.{Timers}
use Rattle.peer_table.specs.declared.outcomes.Refused.{Refused}
use Rattle.peer_table.specs.declared.outcomes.Turn.{Turn}
use Rattle.peer_table.specs.Outboxes.{LeavesUnless, incoming}
use Rattle.peer_table.specs.Peer.{Outcome}
use Rattle.session_state.specs.Standing.{PeerStands}
use Rattle.session_state.proofs.Ends.{if_ok}
use Rattle.session_control.proofs.Placing.{placed_at, placed_nowhere}
use Rattle.session_state.proofs.Usable.{last_open, live_open}
use Rattle.session_control.proofs.control.place_packet.Goals as goal

pub returns-in-None-clause-left : goal.returns-in-None-clause-left
unfolding PeerStands
returns-in-None-clause-left g c = λ p usables stands fresh.
    let i = incoming c.args.opened.now c.args.view.now c.args.next_conn c.args.established c.args.now in
    subst (λ (o : Outcome (Result Turn Refused)). LeavesUnless c.begin_or_refuse.result (PeerStands g.W.Wrap.wrapped) c.begin_or_refuse.new.session c.args.out.now c.begin_or_refuse.new.out c.args.to p o)
    (placed_nowhere p i (sym c.in-None.is ∙ c.live.ensures p.timers p.sessions stands.slots_stand (ap (λ (t : Timers). t.tran) (sym stands.timers_are))))
    (c.begin_or_refuse.ensures.left p stands fresh)

pub returns-in-None-clause-answer : goal.returns-in-None-clause-answer
unfolding PeerStands
returns-in-None-clause-answer g c = if_ok c.begin_or_refuse.result _ _
    (λ answer is p usables stands fresh.
    let i = incoming c.args.opened.now c.args.view.now c.args.next_conn c.args.established c.args.now in
    is p stands fresh
    ∙ ap (λ (o : Outcome (Result Turn Refused)). o.answer)
    (placed_nowhere p i (sym c.in-None.is ∙ c.live.ensures p.timers p.sessions stands.slots_stand (ap (λ (t : Timers). t.tran) (sym stands.timers_are)))))
    c.begin_or_refuse.ensures.answer

pub returns-in-Some-clause-left : goal.returns-in-Some-clause-left
unfolding PeerStands
returns-in-Some-clause-left g c = λ p usables stands fresh.
    let i = incoming c.args.opened.now c.args.view.now c.args.next_conn c.args.established c.args.now in
    let live = sym c.in-Some.is ∙ c.live.ensures p.timers p.sessions stands.slots_stand (ap (λ (t : Timers). t.tran) (sym stands.timers_are)) in
    let there = live_open p c.args.now.0 (c.args.opened.now.first % 8) c.in-Some.number (c.sessions_are_open_without_keys.ensures.orderly p.sessions stands.slots_stand)
    (last_open p.sessions c.args.session.now.slots stands.slots_stand) (λ n s. c.sessions_are_open_without_keys.ensures.open p.sessions n s stands.slots_stand) usables (sym live) in
    subst (λ (o : Outcome (Result Turn Refused)). LeavesUnless c.take_in.result (PeerStands g.W.Wrap.wrapped) c.take_in.new.session c.args.out.now c.take_in.new.out c.args.to p o)
    (placed_at p i c.in-Some.number there.session live there.here)
    (c.take_in.ensures.left p there.session c.args.next_conn c.args.established stands fresh there.here there.is_open)

pub returns-in-Some-clause-answer : goal.returns-in-Some-clause-answer
unfolding PeerStands
returns-in-Some-clause-answer g c = if_ok c.take_in.result _ _
    (λ answer is p usables stands fresh.
    let i = incoming c.args.opened.now c.args.view.now c.args.next_conn c.args.established c.args.now in
    let live = sym c.in-Some.is ∙ c.live.ensures p.timers p.sessions stands.slots_stand (ap (λ (t : Timers). t.tran) (sym stands.timers_are)) in
    let there = live_open p c.args.now.0 (c.args.opened.now.first % 8) c.in-Some.number (c.sessions_are_open_without_keys.ensures.orderly p.sessions stands.slots_stand)
    (last_open p.sessions c.args.session.now.slots stands.slots_stand) (λ n s. c.sessions_are_open_without_keys.ensures.open p.sessions n s stands.slots_stand) usables (sym live) in
    is p there.session c.args.next_conn c.args.established stands there.here there.is_open
    ∙ ap (λ (o : Outcome (Result Turn Refused)). o.answer) (placed_at p i c.in-Some.number there.session live there.here))
    c.take_in.ensures.answer
