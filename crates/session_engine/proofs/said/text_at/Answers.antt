use Rattle.session_state.specs.Standing.{PeerStands}
use Rattle.session_engine.proofs.Saying.{text_answers, text_leaves}
use Rattle.session_engine.proofs.said.text_at.Goals as goal

pub returns-in-Ok-clause-left : goal.returns-in-Ok-clause-left
returns-in-Ok-clause-left g c = λ p s stands at open_is.
    text_leaves c.say_at.result c.in-Ok.turn (PeerStands g.W.Wrap.wrapped) c.say_at.new.session c.args.out.now c.say_at.new.out c.args.to p c.args.number c.args.bytes.now c.args.now.0 s
    c.in-Ok.is at (c.say_at.ensures.left p s stands at open_is)

pub returns-in-Ok-clause-answer : goal.returns-in-Ok-clause-answer
returns-in-Ok-clause-answer g c = λ p s stands at open_is.
    text_answers c.say_at.result c.in-Ok.turn (PeerStands g.W.Wrap.wrapped) c.say_at.new.session c.args.out.now c.say_at.new.out c.args.to p c.args.number c.args.bytes.now c.args.now.0 s
    c.in-Ok.turn c.turn_after.result c.in-Ok.is at (c.say_at.ensures.left p s stands at open_is) (c.in-Ok.ensures.answer p s stands at open_is) c.turn_after.ensures.turn
