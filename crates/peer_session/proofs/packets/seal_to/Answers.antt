use Rattle.std.proofs.Common.{ap, sym, subst, ◌∙◌, refl}
use Rattle.std.specs.Prelude.{is_ok}
use Rattle.std.proofs.lemmas.List.{append-nil}
use Rattle.peer_table.specs.Outboxes.{LeavesSealed}
use Rattle.session_state.specs.Standing.{PeerStands}
use Rattle.session_state.proofs.Usable.{newest_keyed, none_sealed, sealed_is}
use Rattle.peer_session.proofs.packets.seal_to.Goals as goal

pub returns-in-None-clause-left : goal.returns-in-None-clause-left
unfolding PeerStands
returns-in-None-clause-left g c = λ p stands.
    subst (LeavesSealed (PeerStands g.W.Wrap.wrapped) c.args.session.now c.args.out.now c.args.out.now c.args.to)
    (none_sealed p c.args.inner.now (sym c.in-None.is ∙ c.newest_usable.ensures.number p.sessions stands.slots_stand))
    (record { peer = stands; outbox = (sym (append-nil c.args.out.now.effects), refl) })

pub returns-in-None-clause-answer : goal.returns-in-None-clause-answer
unfolding PeerStands
returns-in-None-clause-answer g c = λ p stands.
    ap (λ o. is_ok o.answer) (none_sealed p c.args.inner.now (sym c.in-None.is ∙ c.newest_usable.ensures.number p.sessions stands.slots_stand))

pub returns-in-Some-clause-left : goal.returns-in-Some-clause-left
unfolding PeerStands
returns-in-Some-clause-left g c = λ p stands.
    let here = sym c.in-Some.is ∙ c.newest_usable.ensures.number p.sessions stands.slots_stand in
    let there = newest_keyed p.sessions c.in-Some.number (sym here) in
    let is_open = c.newest_usable.ensures.is_open p.sessions stands.slots_stand c.in-Some.number there.session (sym here) there.here in
    subst (LeavesSealed (PeerStands g.W.Wrap.wrapped) c.seal_in.new.session c.args.out.now c.seal_in.new.out c.args.to)
    (sealed_is p c.args.inner.now c.in-Some.number there.session there.keys here there.here there.keyed)
    (c.seal_in.ensures.left p there.session there.keys stands there.here is_open there.keyed)

pub returns-in-Some-clause-answer : goal.returns-in-Some-clause-answer
unfolding PeerStands
returns-in-Some-clause-answer g c = λ p stands.
    let here = sym c.in-Some.is ∙ c.newest_usable.ensures.number p.sessions stands.slots_stand in
    let there = newest_keyed p.sessions c.in-Some.number (sym here) in
    let is_open = c.newest_usable.ensures.is_open p.sessions stands.slots_stand c.in-Some.number there.session (sym here) there.here in
    c.seal_in.ensures.answer p there.session there.keys stands there.here is_open there.keyed
    ∙ ap (λ o. is_ok o.answer) (sealed_is p c.args.inner.now c.in-Some.number there.session there.keys here there.here there.keyed)
