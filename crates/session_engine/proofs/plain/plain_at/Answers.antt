use Rattle.std.proofs.Common.{ap, refl, subst, ◌∙◌}
use Rattle.peer_table.specs.Peer.{Outcome}
use Rattle.peer_table.specs.declared.outcomes.Turn.{Turn}
use Rattle.session_state.specs.Standing.{PeerStands}
use Rattle.session_engine.specs.internal.Turns.{LeavesQuietly}
use Rattle.session_engine.proofs.Answered.{plain_is}
use Rattle.session_engine.proofs.plain.plain_at.Goals as goal

pub returns-in-Ok-clause-left : goal.returns-in-Ok-clause-left
returns-in-Ok-clause-left g c = λ p s stands at open_is.
    subst (λ (o : Outcome Turn). LeavesQuietly (PeerStands g.W.Wrap.wrapped) c.put_plain_at.new.session o) (plain_is c.args.number c.args.bytes.now p)
    (record { peer = c.in-Ok.ensures.put p s stands at open_is; doings = refl; datagrams = refl })

pub returns-in-Ok-clause-answer : goal.returns-in-Ok-clause-answer
returns-in-Ok-clause-answer g c = λ p s stands at open_is.
    c.judge.ensures.turn _ (c.in-Ok.ensures.put p s stands at open_is) ∙ ap (λ (o : Outcome Turn). o.answer) (plain_is c.args.number c.args.bytes.now p)
