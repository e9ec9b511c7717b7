use Rattle.std.proofs.Common.{ap, sym, subst, ◌∙◌, refl}
use Rattle.std.specs.Prelude.{is_some}
use Rattle.session_state.specs.Standing.{PeerStands}
use Rattle.session_state.proofs.Keeping.{alike, goes_on_with, not_there, same_count, sound_at, text_put, whole_of}
use Rattle.session_state.proofs.Waits.{passed_is, read_follows, waits_of}
use Rattle.peer_table.specs.Exchange.{message_read}
use Rattle.peer_lines.specs.Standing.{StandsFor}
use Rattle.session_state.proofs.session.SessionState.pass_at.Goals as goal

pub take_text-requires : goal.take_text-requires
unfolding PeerStands
take_text-requires g c = whole_of c.args.self.now c.requires

pub returns-in-None-clause-passed : goal.returns-in-None-clause-passed
unfolding PeerStands
returns-in-None-clause-passed g c = λ p s stands at waits. absurd (not_there p.sessions c.args.number s
    (ap is_some (sym c.in-None.is) ∙ c.take_text.ensures.some p.sessions stands.slots_stand) at (waits_of s waits).is_open)

pub returns-in-None-clause-goes_on : goal.returns-in-None-clause-goes_on
unfolding PeerStands
returns-in-None-clause-goes_on g c = goes_on_with c.args.self.now c.take_text.new.self c.requires c.in-None.ensures.none

pub returns-in-None-clause-count : goal.returns-in-None-clause-count
unfolding PeerStands
returns-in-None-clause-count g c = same_count c.args.self.now c.take_text.new.self c.take_text.ensures.number

pub returns-in-Some-clause-passed : goal.returns-in-Some-clause-passed
unfolding PeerStands
returns-in-Some-clause-passed g c = λ p s stands at waits.
    let all = waits_of s waits in
    let text_stands = c.in-Some.ensures.text p.sessions s stands.slots_stand at in
    let there = c.channels_stand_on.ensures.there c.in-Some.text s text_stands ((sound_at p.sessions c.args.number s stands.sound at).read all.keyed) in
    let passed = subst (StandsFor c.pass_message.new.self) (passed_is s all.nul) (c.pass_message.ensures.passed s text_stands there) in
    subst (λ ss. PeerStands g.W.Wrap.wrapped (record c.args.self.now { slots = c.put_text.new.self }) (record p { sessions = ss }))
    (alike p.sessions c.args.number s (λ _. message_read s) message_read at refl)
    (text_put g.W.Wrap.wrapped c.args.self.now c.take_text.new.self c.put_text.new.self p c.args.number s (message_read s) c.pass_message.new.self stands
    (c.take_text.ensures.stands p.sessions stands.slots_stand) at (record { stands = c.put_text.ensures.stands; whole = c.put_text.ensures.whole }) passed (read_follows s))

pub returns-in-Some-clause-goes_on : goal.returns-in-Some-clause-goes_on
unfolding PeerStands
returns-in-Some-clause-goes_on g c = goes_on_with c.args.self.now c.put_text.new.self c.requires c.put_text.ensures.whole

pub returns-in-Some-clause-count : goal.returns-in-Some-clause-count
unfolding PeerStands
returns-in-Some-clause-count g c = same_count c.args.self.now c.put_text.new.self (c.put_text.ensures.number ∙ c.take_text.ensures.number)
