use Rattle.std.proofs.Common.{Err, ap, sym, subst, ◌∙◌}
use Rattle.vpn_base.specs.declared.names.Timers.{Timers}
use Rattle.peer_table.specs.declared.outcomes.SessionFault.TheVariants.{BadKey}
use Rattle.peer_table.specs.DataPackets.{data_kid}
use Rattle.peer_table.specs.KeySessions.{usable_with}
use Rattle.peer_table.specs.Outboxes.{TellsOpened}
use Rattle.session_state.specs.Standing.{PeerStands}
use Rattle.session_state.proofs.Usable.{last_open, none_opened, opened_is, usable_open}
use Rattle.peer_session.proofs.packets.unseal.Goals as goal

pub returns-in-None-clause-left : goal.returns-in-None-clause-left
unfolding PeerStands
returns-in-None-clause-left g c = λ p usables stands.
    let here = sym c.in-None.is ∙ c.usable.ensures p.timers p.sessions stands.slots_stand (ap (λ (t : Timers). t.tran) (sym stands.timers_are))
    ∙ ap (usable_with p.timers c.args.now.0 p.sessions) c.kid_in-kid.ensures in
    subst (λ o. PeerStands g.W.Wrap.wrapped c.args.session.now o.peer) (none_opened p c.args.datagram.now c.args.now here) stands

pub returns-in-None-clause-answer : goal.returns-in-None-clause-answer
unfolding PeerStands
returns-in-None-clause-answer g c = λ p usables stands.
    let here = sym c.in-None.is ∙ c.usable.ensures p.timers p.sessions stands.slots_stand (ap (λ (t : Timers). t.tran) (sym stands.timers_are))
    ∙ ap (usable_with p.timers c.args.now.0 p.sessions) c.kid_in-kid.ensures in
    subst (λ o. TellsOpened (Err (BadKey c.kid_in-kid.result)) c.args.datagram.now o.answer) (none_opened p c.args.datagram.now c.args.now here)
    (ap BadKey c.kid_in-kid.ensures)

pub returns-in-Some-clause-left : goal.returns-in-Some-clause-left
unfolding PeerStands
returns-in-Some-clause-left g c = λ p usables stands.
    let here = sym c.in-Some.is ∙ c.usable.ensures p.timers p.sessions stands.slots_stand (ap (λ (t : Timers). t.tran) (sym stands.timers_are))
    ∙ ap (usable_with p.timers c.args.now.0 p.sessions) c.kid_in-kid.ensures in
    let last = last_open p.sessions c.args.session.now.slots stands.slots_stand in
    let there = usable_open p c.args.now.0 (data_kid c.args.datagram.now) c.in-Some.number last usables (sym here) in
    subst (λ o. PeerStands g.W.Wrap.wrapped c.unseal_in.new.session o.peer)
    (opened_is p c.args.datagram.now c.args.now c.in-Some.number there.keyed.session there.keyed.keys here there.keyed.here there.keyed.keyed)
    (c.unseal_in.ensures.left p there.keyed.session there.keyed.keys stands there.keyed.here there.is_open there.keyed.keyed)

pub returns-in-Some-clause-answer : goal.returns-in-Some-clause-answer
unfolding PeerStands
returns-in-Some-clause-answer g c = λ p usables stands.
    let here = sym c.in-Some.is ∙ c.usable.ensures p.timers p.sessions stands.slots_stand (ap (λ (t : Timers). t.tran) (sym stands.timers_are))
    ∙ ap (usable_with p.timers c.args.now.0 p.sessions) c.kid_in-kid.ensures in
    let last = last_open p.sessions c.args.session.now.slots stands.slots_stand in
    let there = usable_open p c.args.now.0 (data_kid c.args.datagram.now) c.in-Some.number last usables (sym here) in
    subst (λ o. TellsOpened c.unseal_in.result c.unseal_in.new.datagram o.answer)
    (opened_is p c.args.datagram.now c.args.now c.in-Some.number there.keyed.session there.keyed.keys here there.keyed.here there.keyed.keyed)
    (c.unseal_in.ensures.answer p there.keyed.session there.keyed.keys stands there.keyed.here there.is_open there.keyed.keyed)
