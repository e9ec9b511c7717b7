use Rattle.std.proofs.Common.{ap, ◌∙◌}
use Rattle.session_state.specs.Standing.{PeerStands}
use Rattle.peer_table.specs.EngineAnswers.{kept_name}
use Rattle.peer_table.specs.declared.outcomes.Turn.TheVariants.{Over}
use Rattle.session_engine.proofs.Names.{gives_name, refused_answers, refused_leaves, taken_answers, taken_leaves}
use Rattle.session_engine.proofs.named.name_opening.Goals as goal

pub returns-in-Ok-clause-left : goal.returns-in-Ok-clause-left
unfolding PeerStands
returns-in-Ok-clause-left g c = λ p stands newest_is.
    taken_leaves g.W.Wrap.wrapped c.take_name.new.session c.args.number (kept_name c.args.name.now) p c.args.session.now.name stands.name_is newest_is c.in-Ok.ensures.judged
    (c.in-Ok.ensures.named p stands)

pub returns-in-Ok-clause-answer : goal.returns-in-Ok-clause-answer
unfolding PeerStands
returns-in-Ok-clause-answer g c = λ p stands newest_is.
    taken_answers c.args.number (kept_name c.args.name.now) p c.args.session.now.name c.is_none-gave_name.result c.judge.result stands.name_is newest_is c.in-Ok.ensures.judged
    (gives_name c.args.session.now.name c.is_none-gave_name.result c.is_none-gave_name.ensures) (c.judge.ensures.turn _ (c.in-Ok.ensures.named p stands))

pub returns-in-Err-clause-left : goal.returns-in-Err-clause-left
unfolding PeerStands
returns-in-Err-clause-left g c = λ p stands newest_is.
    refused_leaves g.W.Wrap.wrapped c.take_name.new.session c.args.number (kept_name c.args.name.now) p c.args.session.now.name c.in-Err.fault stands.name_is c.in-Err.ensures.judged
    (c.in-Err.ensures.kept p stands)

pub returns-in-Err-clause-answer : goal.returns-in-Err-clause-answer
unfolding PeerStands
returns-in-Err-clause-answer g c = λ p stands newest_is.
    ap Over c.cause_of.ensures
    ∙ refused_answers c.args.number (kept_name c.args.name.now) p c.args.session.now.name c.in-Err.fault stands.name_is c.in-Err.ensures.judged
