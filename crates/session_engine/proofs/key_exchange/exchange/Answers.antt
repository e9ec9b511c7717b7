use Rattle.std.proofs.Common.{Some, None, ap, sym, subst, ◌∙◌}
use Rattle.std.proofs.lemmas.List.{append-nil}
use Rattle.key_method2.specs.declared.message.Source.{Source}
use Rattle.peer_table.specs.Exchange.{exchanged_with, server_source}
use Rattle.peer_table.specs.Outboxes.{Leaves}
use Rattle.peer_table.specs.Peer.{Outcome}
use Rattle.peer_table.specs.declared.outcomes.Turn.{Turn}
use Rattle.session_state.specs.Standing.{PeerStands}
use Rattle.session_engine.proofs.Exchanging.{exchanged_is, none_exchanged, still_going, taken_of}
use Rattle.session_engine.proofs.key_exchange.exchange.Goals as goal

pub returns-in-None-clause-left : goal.returns-in-None-clause-left
returns-in-None-clause-left g c = λ p to stands.
    subst (λ (o : Outcome Turn). Leaves (PeerStands g.W.Wrap.wrapped) c.args.session.now c.args.out.now c.args.out.now to o)
    (none_exchanged c.args.policy.now c.args.peer_id c.args.draw.now p (sym c.in-None.is ∙ c.look.ensures.looked p stands))
    (record { peer = stands; outbox = (sym (append-nil c.args.out.now.effects), sym (append-nil c.args.out.now.staged)) })

pub returns-in-None-clause-answer : goal.returns-in-None-clause-answer
returns-in-None-clause-answer g c = λ p stands.
    ap (λ (o : Outcome Turn). o.answer) (none_exchanged c.args.policy.now c.args.peer_id c.args.draw.now p (sym c.in-None.is ∙ c.look.ensures.looked p stands))

pub returns-in-None-cipher-clause-left : goal.returns-in-None-cipher-clause-left
returns-in-None-cipher-clause-left g c = λ p to stands.
    let taken = taken_of c.args.policy.now p c.in-Some.prepared (sym c.in-Some.is ∙ c.look.ensures.looked p stands) in
    subst (λ (o : Outcome Turn). Leaves (PeerStands g.W.Wrap.wrapped) c.args.session.now c.args.out.now c.args.out.now to o)
    (exchanged_is c.args.policy.now c.args.peer_id c.args.draw.now p c.in-Some.prepared None taken c.in-None-cipher.is)
    (record { peer = stands; outbox = (sym (append-nil c.args.out.now.effects), sym (append-nil c.args.out.now.staged)) })

pub returns-in-None-cipher-clause-answer : goal.returns-in-None-cipher-clause-answer
returns-in-None-cipher-clause-answer g c = λ p stands.
    let taken = taken_of c.args.policy.now p c.in-Some.prepared (sym c.in-Some.is ∙ c.look.ensures.looked p stands) in
    ap (λ (o : Outcome Turn). o.answer) (exchanged_is c.args.policy.now c.args.peer_id c.args.draw.now p c.in-Some.prepared None taken c.in-None-cipher.is)

pub returns-in-Ok-clause-left : goal.returns-in-Ok-clause-left
returns-in-Ok-clause-left g c = λ p to stands.
    let taken = taken_of c.args.policy.now p c.in-Some.prepared (sym c.in-Some.is ∙ c.look.ensures.looked p stands) in
    let left : Leaves (PeerStands g.W.Wrap.wrapped) c.exchange_with.new.session c.args.out.now c.exchange_with.new.out to
    (exchanged_with c.args.peer_id p (server_source c.args.draw.now) taken.message.0 taken.message.1 (Some c.in-Some-cipher.cipher)) =
    subst (λ (own : Source). Leaves (PeerStands g.W.Wrap.wrapped) c.exchange_with.new.session c.args.out.now c.exchange_with.new.out to
    (exchanged_with c.args.peer_id p own taken.message.0 taken.message.1 (Some c.in-Some-cipher.cipher))) c.server_source-own.ensures
    (c.in-Ok.ensures.left c.args.policy.now p taken.message to stands taken.there taken.same) in
    subst (λ (o : Outcome Turn). Leaves (PeerStands g.W.Wrap.wrapped) c.exchange_with.new.session c.args.out.now c.exchange_with.new.out to o)
    (exchanged_is c.args.policy.now c.args.peer_id c.args.draw.now p c.in-Some.prepared (Some c.in-Some-cipher.cipher) taken c.in-Some-cipher.is) left

pub returns-in-Ok-clause-answer : goal.returns-in-Ok-clause-answer
returns-in-Ok-clause-answer g c = λ p stands.
    let taken = taken_of c.args.policy.now p c.in-Some.prepared (sym c.in-Some.is ∙ c.look.ensures.looked p stands) in
    still_going c.args.peer_id p (server_source c.args.draw.now) taken.message.0 taken.message.1 c.in-Some-cipher.cipher
    ∙ ap (λ (o : Outcome Turn). o.answer)
    (exchanged_is c.args.policy.now c.args.peer_id c.args.draw.now p c.in-Some.prepared (Some c.in-Some-cipher.cipher) taken c.in-Some-cipher.is)

pub returns-in-Err-clause-left : goal.returns-in-Err-clause-left
returns-in-Err-clause-left g c = λ p to stands.
    let taken = taken_of c.args.policy.now p c.in-Some.prepared (sym c.in-Some.is ∙ c.look.ensures.looked p stands) in
    c.in-Err.ensures.left c.args.policy.now p taken.message to stands taken.there taken.same
