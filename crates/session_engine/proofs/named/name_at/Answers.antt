use Rattle.std.proofs.Common.{ap, refl, subst, sym, ◌∙◌}
use Rattle.peer_table.specs.Peer.{Outcome}
use Rattle.peer_table.specs.declared.outcomes.Turn.{Turn}
use Rattle.session_state.specs.Standing.{PeerStands}
use Rattle.session_engine.specs.internal.Turns.{LeavesQuietly}
use Rattle.session_engine.proofs.Names.{ignored_came, named_came}
use Rattle.session_engine.proofs.named.name_at.Goals as goal

pub returns-then-is_opening-clause-left : goal.returns-then-is_opening-clause-left
returns-then-is_opening-clause-left g c = λ p s stands at.
    subst (λ (o : Outcome Turn). LeavesQuietly (PeerStands g.W.Wrap.wrapped) c.name_opening.new.session o)
    (named_came c.args.number c.args.name.now p s at (sym (c.is_opening.ensures.opening p s stands at) ∙ c.if-is_opening.true))
    (c.name_opening.ensures.left p stands (c.is_opening.ensures.number p stands c.if-is_opening.true))

pub returns-then-is_opening-clause-answer : goal.returns-then-is_opening-clause-answer
returns-then-is_opening-clause-answer g c = λ p s stands at.
    c.name_opening.ensures.answer p stands (c.is_opening.ensures.number p stands c.if-is_opening.true)
    ∙ ap (λ (o : Outcome Turn). o.answer) (named_came c.args.number c.args.name.now p s at (sym (c.is_opening.ensures.opening p s stands at) ∙ c.if-is_opening.true))

pub returns-else-is_opening-clause-left : goal.returns-else-is_opening-clause-left
returns-else-is_opening-clause-left g c = λ p s stands at.
    subst (λ (o : Outcome Turn). LeavesQuietly (PeerStands g.W.Wrap.wrapped) c.args.session.now o)
    (ignored_came c.args.number c.args.name.now p s at (sym (c.is_opening.ensures.opening p s stands at) ∙ c.if-is_opening.false))
    (record { peer = stands; doings = refl; datagrams = refl })

pub returns-else-is_opening-clause-answer : goal.returns-else-is_opening-clause-answer
returns-else-is_opening-clause-answer g c = λ p s stands at.
    ap (λ (o : Outcome Turn). o.answer) (ignored_came c.args.number c.args.name.now p s at (sym (c.is_opening.ensures.opening p s stands at) ∙ c.if-is_opening.false))
