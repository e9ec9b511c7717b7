use Rattle.std.proofs.Common.{◌≤◌, ℕ, IsOk, ap, sym, subst, ◌∙◌}
use Rattle.std.specs.Prelude.{is_some}
use Rattle.peer_lines.specs.Rooms.{text_room}
use Rattle.session_state.specs.Standing.{PeerStands}
use Rattle.session_state.proofs.Keeping.{goes_at, goes_on_with, not_there, same_count, whole_of}
use Rattle.session_engine.proofs.Pieces.{pieces_of}
use Rattle.session_engine.proofs.Saying.{as_many, each_goes, line_fits, say_answers, say_goes_on, say_leaves, say_told}
use Rattle.session_engine.proofs.said.say_at.Goals as goal

pub take_text-requires : goal.take_text-requires
take_text-requires g c = whole_of c.args.session.now c.requires

pub returns-in-None-clause-left : goal.returns-in-None-clause-left
unfolding PeerStands
returns-in-None-clause-left g c = λ p s stands at open_is.
    absurd (not_there p.sessions c.args.number s (ap is_some (sym c.in-None.is) ∙ c.take_text.ensures.some p.sessions stands.slots_stand) at open_is)

pub returns-in-None-clause-answer : goal.returns-in-None-clause-answer
unfolding PeerStands
returns-in-None-clause-answer g c = λ p s stands at open_is.
    absurd (not_there p.sessions c.args.number s (ap is_some (sym c.in-None.is) ∙ c.take_text.ensures.some p.sessions stands.slots_stand) at open_is)

pub returns-in-None-clause-goes_on : goal.returns-in-None-clause-goes_on
returns-in-None-clause-goes_on g c = goes_on_with c.args.session.now c.take_text.new.self c.requires c.in-None.ensures.none

pub returns-in-None-clause-count : goal.returns-in-None-clause-count
returns-in-None-clause-count g c = same_count c.args.session.now c.take_text.new.self c.take_text.ensures.number

pub returns-in-Some-clause-left : goal.returns-in-Some-clause-left
unfolding PeerStands
returns-in-Some-clause-left g c = λ p s stands at open_is.
    let each = each_goes g.W.Wrap.wrapped c.args.session.now p c.requires stands in
    let text_stands = c.in-Some.ensures.text p.sessions s stands.slots_stand at in
    let spent = goes_at p.sessions c.args.number s each at in
    say_leaves g.W.Wrap.wrapped c.args.session.now c.say-said.new.env c.take_text.new.self c.put_text.new.self p c.args.number s c.args.bytes.now c.remote_sent-remote.result
    c.args.now.0 c.say-said.new.self c.args.out.now c.say-said.new.out c.args.to c.say-said.result c.turn_told-turn.result c.is_over-session.result
    c.turn_told-turn.ensures c.is_over-session.ensures (c.remote_sent-remote.ensures p stands) stands each (c.take_text.ensures.stands p.sessions stands.slots_stand) at
    (record { stands = c.put_text.ensures.stands; whole = c.put_text.ensures.whole })
    (c.say-said.ensures.answer s p.envelope text_stands spent stands.envelope_stands) (c.say-said.ensures.left s p.envelope text_stands spent stands.envelope_stands)

pub returns-in-Some-clause-answer : goal.returns-in-Some-clause-answer
unfolding PeerStands
returns-in-Some-clause-answer g c =
    say_answers g.W.Wrap.wrapped c.args.session.now c.args.number c.args.bytes.now c.args.now.0 c.say-said.result c.turn_told-turn.result c.turn_told-turn.ensures
    (λ p s stands at.
    let each = each_goes g.W.Wrap.wrapped c.args.session.now p c.requires stands in
    let text_stands = c.in-Some.ensures.text p.sessions s stands.slots_stand at in
    say_told c.say-said.result p s c.args.bytes.now c.remote_sent-remote.result c.args.now.0 (c.remote_sent-remote.ensures p stands)
    (c.say-said.ensures.answer s p.envelope text_stands (goes_at p.sessions c.args.number s each at) stands.envelope_stands))

pub returns-in-Some-clause-goes_on : goal.returns-in-Some-clause-goes_on
returns-in-Some-clause-goes_on g c =
    say_goes_on c.args.session.now c.say-said.new.env c.put_text.new.self c.say-said.result c.turn_told-turn.result c.is_over-session.result
    c.turn_told-turn.ensures c.is_over-session.ensures c.requires c.put_text.ensures.whole

pub returns-in-Some-clause-fits : goal.returns-in-Some-clause-fits
returns-in-Some-clause-fits g c = λ effects room takes has.
    let here = takes.texts c.args.number c.in-Some.text (sym c.take_text.ensures.taken ∙ c.in-Some.is) in
    let fits = c.say-said.ensures.fits has (subst (λ (k : ℕ). k ≤ text_room c.in-Some.text) (sym (pieces_of c.args.bytes.now)) here) in
    subst IsOk (sym c.turn_told-turn.ensures) (line_fits c.say-said.result fits)

pub returns-in-Some-clause-count : goal.returns-in-Some-clause-count
returns-in-Some-clause-count g c = as_many c.args.session.now _ (c.put_text.ensures.number ∙ c.take_text.ensures.number)
