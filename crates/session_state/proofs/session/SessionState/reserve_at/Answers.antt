use Rattle.std.proofs.Common.{◌∙◌}
use Rattle.session_state.proofs.Keeping.{goes_on_with, same_count, whole_of}
use Rattle.session_state.proofs.Reserved.{put_same}
use Rattle.session_state.proofs.session.SessionState.reserve_at.Goals as goal

pub take_text-requires : goal.take_text-requires
take_text-requires g c = whole_of c.args.self.now c.requires.goes_on

pub returns-in-Some-clause-same : goal.returns-in-Some-clause-same
returns-in-Some-clause-same g c = λ p stands.
    put_same g.W.Wrap.wrapped c.args.self.now c.take_text.new.self c.put_text.new.self p c.args.number c.reserve-reserved.new.self stands
    (c.take_text.ensures.stands p.sessions) (record { stands = c.put_text.ensures.stands; whole = c.put_text.ensures.whole })
    (λ are s at. c.reserve-reserved.ensures.same s (c.in-Some.ensures.text p.sessions s are at))

pub returns-in-Some-clause-goes_on : goal.returns-in-Some-clause-goes_on
returns-in-Some-clause-goes_on g c = goes_on_with c.args.self.now c.put_text.new.self c.requires.goes_on c.put_text.ensures.whole

pub returns-in-Some-clause-count : goal.returns-in-Some-clause-count
returns-in-Some-clause-count g c = same_count c.args.self.now c.put_text.new.self (c.put_text.ensures.number ∙ c.take_text.ensures.number)
