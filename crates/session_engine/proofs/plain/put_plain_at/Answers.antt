use Rattle.std.proofs.Common.{ap, sym, ◌∙◌}
use Rattle.std.specs.Prelude.{is_some}
use Rattle.session_state.specs.Standing.{PeerStands}
use Rattle.session_engine.proofs.Answered.{plain_kept, plain_put}
use Rattle.session_state.proofs.Keeping.{goes_on_with, not_there, same_count, whole_of}
use Rattle.session_engine.proofs.plain.put_plain_at.Goals as goal

pub take_text-requires : goal.take_text-requires
take_text-requires g c = whole_of c.args.session.now c.requires

pub returns-in-None-clause-put : goal.returns-in-None-clause-put
unfolding PeerStands
returns-in-None-clause-put g c = λ p s stands at open_is.
    absurd (not_there p.sessions c.args.number s (ap is_some (sym c.in-None.is) ∙ c.take_text.ensures.some p.sessions stands.slots_stand) at open_is)

pub returns-in-None-clause-goes_on : goal.returns-in-None-clause-goes_on
returns-in-None-clause-goes_on g c = goes_on_with c.args.session.now c.take_text.new.self c.requires c.in-None.ensures.none

pub returns-in-None-clause-count : goal.returns-in-None-clause-count
returns-in-None-clause-count g c = same_count c.args.session.now c.take_text.new.self c.take_text.ensures.number

pub returns-in-Some-clause-put : goal.returns-in-Some-clause-put
returns-in-Some-clause-put g c =
    plain_put g.W.Wrap.wrapped c.args.session.now c.take_text.new.self c.put_text.new.self c.args.number c.args.bytes.now c.in-Some.text c.put_plain-put.new.self c.put_plain-put.result
    (record { stands = c.take_text.ensures.stands; text_stands = c.in-Some.ensures.text }) (record { stands = c.put_text.ensures.stands; whole = c.put_text.ensures.whole })
    c.put_plain-put.ensures.put

pub returns-in-Some-clause-same : goal.returns-in-Some-clause-same
returns-in-Some-clause-same g c =
    plain_kept g.W.Wrap.wrapped c.args.session.now c.take_text.new.self c.put_text.new.self c.args.number c.in-Some.text c.put_plain-put.new.self c.put_plain-put.result
    (record { stands = c.take_text.ensures.stands; text_stands = c.in-Some.ensures.text }) (record { stands = c.put_text.ensures.stands; whole = c.put_text.ensures.whole })
    c.put_plain-put.ensures.same

pub returns-in-Some-clause-goes_on : goal.returns-in-Some-clause-goes_on
returns-in-Some-clause-goes_on g c = goes_on_with c.args.session.now c.put_text.new.self c.requires c.put_text.ensures.whole

pub returns-in-Some-clause-count : goal.returns-in-Some-clause-count
returns-in-Some-clause-count g c = same_count c.args.session.now c.put_text.new.self (c.put_text.ensures.number ∙ c.take_text.ensures.number)
