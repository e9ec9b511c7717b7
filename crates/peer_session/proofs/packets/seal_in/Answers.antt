use Rattle.std.proofs.Common.{ap, sym, ◌∙◌}
use Rattle.std.specs.Prelude.{is_some}
use Rattle.session_state.specs.Standing.{PeerStands}
use Rattle.session_state.proofs.Keeping.{goes_on_with, not_there, same_count, sound_at, whole_of}
use Rattle.peer_session.proofs.Sealed.{has_them, sealed_leaves, sealed_ok}
use Rattle.peer_session.proofs.packets.seal_in.Goals as goal

pub take_text-requires : goal.take_text-requires
take_text-requires g c = whole_of c.args.session.now c.requires.goes_on

pub returns-in-None-clause-left : goal.returns-in-None-clause-left
unfolding PeerStands
returns-in-None-clause-left g c = λ p s keys stands at open_is keyed.
    absurd (not_there p.sessions c.args.number s (ap is_some (sym c.in-None.is) ∙ c.take_text.ensures.some p.sessions stands.slots_stand) at open_is)

pub returns-in-None-clause-answer : goal.returns-in-None-clause-answer
unfolding PeerStands
returns-in-None-clause-answer g c = λ p s keys stands at open_is keyed.
    absurd (not_there p.sessions c.args.number s (ap is_some (sym c.in-None.is) ∙ c.take_text.ensures.some p.sessions stands.slots_stand) at open_is)

pub returns-in-None-clause-goes_on : goal.returns-in-None-clause-goes_on
returns-in-None-clause-goes_on g c = goes_on_with c.args.session.now c.take_text.new.self c.requires.goes_on c.in-None.ensures.none

pub returns-in-None-clause-count : goal.returns-in-None-clause-count
returns-in-None-clause-count g c = same_count c.args.session.now c.take_text.new.self c.take_text.ensures.number

pub returns-in-Some-clause-left : goal.returns-in-Some-clause-left
unfolding PeerStands
returns-in-Some-clause-left g c = λ p s keys stands at open_is keyed.
    let text_stands = c.in-Some.ensures.text p.sessions s stands.slots_stand at in
    let read = (sound_at p.sessions c.args.number s stands.sound at).read (has_them s keys keyed) in
    let there = c.channels_stand_on.ensures.there c.in-Some.text s text_stands read in
    let sealed = c.seal-sealed.ensures.left s keys text_stands keyed there in
    sealed_leaves g.W.Wrap.wrapped c.args.session.now c.take_text.new.self c.put_text.new.self p c.args.number s keys c.args.inner.now c.seal-sealed.new.self
    c.args.out.now c.seal-sealed.new.out c.args.to stands (c.take_text.ensures.stands p.sessions stands.slots_stand) at
    (record { stands = c.put_text.ensures.stands; whole = c.put_text.ensures.whole }) sealed.0 sealed.1

pub returns-in-Some-clause-answer : goal.returns-in-Some-clause-answer
unfolding PeerStands
returns-in-Some-clause-answer g c = λ p s keys stands at open_is keyed.
    let text_stands = c.in-Some.ensures.text p.sessions s stands.slots_stand at in
    let read = (sound_at p.sessions c.args.number s stands.sound at).read (has_them s keys keyed) in
    let there = c.channels_stand_on.ensures.there c.in-Some.text s text_stands read in
    c.seal-sealed.ensures.answer s keys text_stands keyed there ∙ sealed_ok p c.args.inner.now c.args.number s keys

pub returns-in-Some-clause-goes_on : goal.returns-in-Some-clause-goes_on
returns-in-Some-clause-goes_on g c = goes_on_with c.args.session.now c.put_text.new.self c.requires.goes_on c.put_text.ensures.whole

pub returns-in-Some-clause-count : goal.returns-in-Some-clause-count
returns-in-Some-clause-count g c = same_count c.args.session.now c.put_text.new.self (c.put_text.ensures.number ∙ c.take_text.ensures.number)
