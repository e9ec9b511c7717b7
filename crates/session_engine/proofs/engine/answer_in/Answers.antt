use Rattle.std.proofs.Common.{ap, refl, subst, ◌∙◌}
use Rattle.peer_table.specs.EngineAnswers.{plain_came, text_came}
use Rattle.peer_table.specs.Outboxes.{Leaves}
use Rattle.peer_table.specs.Peer.{Outcome}
use Rattle.peer_table.specs.declared.outcomes.Turn.{Turn}
use Rattle.session_state.specs.Standing.{PeerStands}
use Rattle.session_engine.proofs.NextTurns.{quiet_leaves}
use Rattle.session_engine.proofs.Answered.{answers_in, name_in, other_in, plain_in, plain_takes, room_kept, room_left, room_there, text_in, text_takes}
use Rattle.session_engine.proofs.engine.answer_in.Goals as goal

pub returns-in-EngineText-clause-answer : goal.returns-in-EngineText-clause-answer
returns-in-EngineText-clause-answer g c =
    answers_in c.text_at.result (PeerStands g.W.Wrap.wrapped c.args.session.now) c.args.kind.now c.args.number c.args.now.0 (text_came c.args.number c.as_slice.result.now c.args.now.0)
    (λ p. text_in c.args.kind.now c.in-EngineText.conn c.in-EngineText.bytes c.as_slice.result.now c.args.number c.args.now.0 p c.in-EngineText.is c.as_slice.ensures)
    c.text_at.ensures.answer

pub returns-in-EngineText-clause-fits : goal.returns-in-EngineText-clause-fits
returns-in-EngineText-clause-fits g c = λ effects room ready has.
    let takes = text_takes c.args.session.now c.args.kind.now c.in-EngineText.conn c.in-EngineText.bytes c.as_slice.result.now effects room c.in-EngineText.is c.as_slice.ensures ready in
    c.text_at.ensures.fits effects room takes (room_there c.args.session.now _ c.args.out.now effects room takes has)

pub returns-in-EngineText-clause-uses : goal.returns-in-EngineText-clause-uses
returns-in-EngineText-clause-uses g c = λ effects room ready has.
    let takes = text_takes c.args.session.now c.args.kind.now c.in-EngineText.conn c.in-EngineText.bytes c.as_slice.result.now effects room c.in-EngineText.is c.as_slice.ensures ready in
    room_left c.args.session.now _ c.args.out.now c.text_at.new.out effects room takes has c.text_at.ensures.uses

pub returns-in-EnginePlain-clause-answer : goal.returns-in-EnginePlain-clause-answer
returns-in-EnginePlain-clause-answer g c =
    answers_in c.plain_at.result (PeerStands g.W.Wrap.wrapped c.args.session.now) c.args.kind.now c.args.number c.args.now.0 (plain_came c.args.number c.as_slice-in-EnginePlain.result.now)
    (λ p. plain_in c.args.kind.now c.in-EnginePlain.conn c.in-EnginePlain.bytes c.as_slice-in-EnginePlain.result.now c.args.number c.args.now.0 p c.in-EnginePlain.is
    c.as_slice-in-EnginePlain.ensures)
    c.plain_at.ensures.answer

pub returns-in-EnginePlain-clause-fits : goal.returns-in-EnginePlain-clause-fits
returns-in-EnginePlain-clause-fits g c = λ effects room ready has.
    c.plain_at.ensures.fits (plain_takes c.args.session.now c.args.kind.now c.in-EnginePlain.conn c.in-EnginePlain.bytes c.as_slice-in-EnginePlain.result.now effects room c.in-EnginePlain.is
    c.as_slice-in-EnginePlain.ensures ready)

pub returns-in-EnginePlain-clause-uses : goal.returns-in-EnginePlain-clause-uses
returns-in-EnginePlain-clause-uses g c = λ effects room ready has. room_kept c.args.session.now c.args.kind.now c.args.out.now effects room ready has

pub returns-in-EngineUp-clause-answer : goal.returns-in-EngineUp-clause-answer
returns-in-EngineUp-clause-answer g c = λ p s stands at open_is.
    c.name_at.ensures.answer p s stands at
    ∙ ap (λ (o : Outcome Turn). o.answer) (name_in c.args.kind.now c.in-EngineUp.conn c.in-EngineUp.name c.as_slice-in-EngineUp.result.now c.args.number c.args.now.0 p c.in-EngineUp.is
    c.as_slice-in-EngineUp.ensures)

pub returns-in-EngineUp-clause-uses : goal.returns-in-EngineUp-clause-uses
returns-in-EngineUp-clause-uses g c = λ effects room ready has. room_kept c.args.session.now c.args.kind.now c.args.out.now effects room ready has

pub returns-in_default-clause-left : goal.returns-in_default-clause-left
returns-in_default-clause-left g c = λ p s stands at open_is.
    subst (λ (o : Outcome Turn). Leaves (PeerStands g.W.Wrap.wrapped) c.args.session.now c.args.out.now c.args.out.now c.args.to o)
    (other_in c.args.kind.now c.args.number c.args.now.0 p c.in_default.not-EngineText c.in_default.not-EnginePlain c.in_default.not-EngineUp)
    (quiet_leaves (PeerStands g.W.Wrap.wrapped) c.args.session.now c.args.out.now c.args.to _ (record { peer = stands; doings = refl; datagrams = refl }))

pub returns-in_default-clause-answer : goal.returns-in_default-clause-answer
returns-in_default-clause-answer g c = λ p s stands at open_is.
    ap (λ (o : Outcome Turn). o.answer)
    (other_in c.args.kind.now c.args.number c.args.now.0 p c.in_default.not-EngineText c.in_default.not-EnginePlain c.in_default.not-EngineUp)

pub returns-in_default-clause-uses : goal.returns-in_default-clause-uses
returns-in_default-clause-uses g c = λ effects room ready has. room_kept c.args.session.now c.args.kind.now c.args.out.now effects room ready has
