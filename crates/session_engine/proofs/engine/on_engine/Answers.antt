use Rattle.std.proofs.Common.{ap, refl, subst, sym, ◌∙◌}
use Rattle.peer_table.specs.Outboxes.{Leaves, LeavesUnless}
use Rattle.peer_table.specs.Peer.{Outcome}
use Rattle.peer_table.specs.declared.outcomes.Turn.{Turn}
use Rattle.session_state.specs.Standing.{PeerStands}
use Rattle.session_engine.proofs.Answered.{answers_on, came_in, none_came, open_for, room_kept}
use Rattle.session_engine.proofs.NextTurns.{quiet_leaves}
use Rattle.session_engine.proofs.engine.on_engine.Goals as goal

pub returns-in-None-clause-left : goal.returns-in-None-clause-left
returns-in-None-clause-left g c = λ p stands.
    subst (λ (o : Outcome Turn). Leaves (PeerStands g.W.Wrap.wrapped) c.args.session.now c.args.out.now c.args.out.now c.args.to o)
    (none_came c.args.kind.now c.args.now.0 p (sym c.in-None.is ∙ c.session_on.ensures p stands))
    (quiet_leaves (PeerStands g.W.Wrap.wrapped) c.args.session.now c.args.out.now c.args.to _ (record { peer = stands; doings = refl; datagrams = refl }))

pub returns-in-None-clause-answer : goal.returns-in-None-clause-answer
returns-in-None-clause-answer g c = λ p stands.
    ap (λ (o : Outcome Turn). o.answer) (none_came c.args.kind.now c.args.now.0 p (sym c.in-None.is ∙ c.session_on.ensures p stands))

pub returns-in-None-clause-uses : goal.returns-in-None-clause-uses
returns-in-None-clause-uses g c = λ effects room ready has. room_kept c.args.session.now c.args.kind.now c.args.out.now effects room ready has

pub returns-in-Some-clause-left : goal.returns-in-Some-clause-left
returns-in-Some-clause-left g c = λ p stands.
    let on = sym c.in-Some.is ∙ c.session_on.ensures p stands in
    let there = open_for c.args.kind.now p c.in-Some.number on in
    subst (λ (o : Outcome Turn). LeavesUnless c.answer_in.result (PeerStands g.W.Wrap.wrapped) c.answer_in.new.session c.args.out.now c.answer_in.new.out c.args.to p o)
    (came_in c.args.kind.now c.args.now.0 p c.in-Some.number on)
    (c.answer_in.ensures.left p there.session stands there.here there.is_open)

pub returns-in-Some-clause-answer : goal.returns-in-Some-clause-answer
returns-in-Some-clause-answer g c =
    answers_on c.answer_in.result (PeerStands g.W.Wrap.wrapped c.args.session.now) c.args.kind.now c.in-Some.number c.args.now.0
    (λ p stands. sym c.in-Some.is ∙ c.session_on.ensures p stands) c.answer_in.ensures.answer
