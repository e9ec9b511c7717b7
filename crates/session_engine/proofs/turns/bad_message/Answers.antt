use Rattle.std.proofs.Common.{ap, sym, ◌∙◌}
use Rattle.std.specs.Prelude.{is_some}
use Rattle.session_state.specs.Standing.{PeerStands}
use Rattle.session_state.proofs.Keeping.{not_there}
use Rattle.peer_table.specs.KeySessions.{is_keyed}
use Rattle.peer_table.specs.Peer.{other}
use Rattle.peer_table.specs.EngineAnswers.{bad_of}
use Rattle.key_method2.specs.Reading.{reading}
use Rattle.key_method2.specs.Views.{read_seen}
use Rattle.session_engine.proofs.turns.bad_message.Goals as goal

pub returns-in-None-clause-turn : goal.returns-in-None-clause-turn
unfolding PeerStands
returns-in-None-clause-turn g c = λ p s stands at named.
    absurd (not_there p.sessions c.args.number s (ap is_some (sym c.in-None.is) ∙ c.text.ensures.some stands.whole p.sessions stands.slots_stand) at
    (c.sessions_are_open_without_keys.ensures.open p.sessions c.args.number s stands.slots_stand at (ap is_keyed named)))

pub returns-in-Whole-clause-turn : goal.returns-in-Whole-clause-turn
unfolding PeerStands
returns-in-Whole-clause-turn g c = λ p s stands at named.
    let told = c.message.ensures s (c.in-Some.ensures.text p.sessions s stands.slots_stand at) (ap is_keyed named) in
    ap (λ r. bad_of (read_seen r)) (sym c.in-Whole.is) ∙ ap bad_of told
    ∙ ap (λ role. bad_of (reading role s.plain)) (c.other.ensures ∙ ap other stands.role_is)

pub returns-in-More-clause-turn : goal.returns-in-More-clause-turn
unfolding PeerStands
returns-in-More-clause-turn g c = λ p s stands at named.
    let told = c.message.ensures s (c.in-Some.ensures.text p.sessions s stands.slots_stand at) (ap is_keyed named) in
    ap (λ r. bad_of (read_seen r)) (sym c.in-More.is) ∙ ap bad_of told
    ∙ ap (λ role. bad_of (reading role s.plain)) (c.other.ensures ∙ ap other stands.role_is)

pub returns-in-Bad-clause-turn : goal.returns-in-Bad-clause-turn
unfolding PeerStands
returns-in-Bad-clause-turn g c = λ p s stands at named.
    let told = c.message.ensures s (c.in-Some.ensures.text p.sessions s stands.slots_stand at) (ap is_keyed named) in
    ap (λ r. bad_of (read_seen r)) (sym c.in-Bad.is) ∙ ap bad_of told
    ∙ ap (λ role. bad_of (reading role s.plain)) (c.other.ensures ∙ ap other stands.role_is)
