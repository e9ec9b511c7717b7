use Rattle.std.proofs.Common.{ap, sym, ◌∙◌}
use Rattle.std.specs.Prelude.{is_some}
use Rattle.std.specs.Option.{option_copied}
use Rattle.session_state.specs.Standing.{PeerStands}
use Rattle.session_state.proofs.Keeping.{not_there}
use Rattle.session_state.proofs.Waits.{bytes_told, waiting_some, waits_of}
use Rattle.std.proofs.lemmas.Option.{none-some}
use Rattle.session_state.proofs.session.SessionState.message_at.Goals as goal

pub returns-in-None : goal.returns-in-None
unfolding PeerStands
returns-in-None g c = λ p s stands at waits. absurd (not_there p.sessions c.args.number s
    (ap is_some (sym c.in-None.is) ∙ c.text.ensures.some stands.whole p.sessions stands.slots_stand) at (waits_of s waits).is_open)

pub returns-in-None-next_message : goal.returns-in-None-next_message
unfolding PeerStands
returns-in-None-next_message g c = λ p s stands at waits. absurd (none-some _
    (ap option_copied (sym c.in-None-next_message.is) ∙ c.next_message.ensures s (c.in-Some.ensures.text p.sessions s stands.slots_stand at) ∙ waiting_some s (waits_of s waits).nul))

pub returns-in-Some-next_message : goal.returns-in-Some-next_message
unfolding PeerStands
returns-in-Some-next_message g c = λ p s stands at waits.
    let text_stands = c.in-Some.ensures.text p.sessions s stands.slots_stand at in
    bytes_told s c.in-Some-next_message.bytes c.conn.result c.next_message.result c.in-Some-next_message.is (c.next_message.ensures s text_stands) (c.conn.ensures s text_stands)
    (waits_of s waits).nul
