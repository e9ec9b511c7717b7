use Rattle.std.proofs.Common.{Some, None, ap, sym, ◌∙◌}
use Rattle.session_state.specs.Standing.{PeerStands}
use Rattle.session_state.proofs.Seen.{place_is, place_seen}
use Rattle.session_state.proofs.session.SessionState.place_numbered.Goals as goal

pub returns-in-None : goal.returns-in-None
unfolding PeerStands
returns-in-None g c = λ p stands. place_is p c.args.number None (sym c.in-None.is ∙ c.at.ensures p.sessions stands.slots_stand)

pub returns-in-Some : goal.returns-in-Some
unfolding PeerStands
returns-in-Some g c = λ p stands.
    ap (λ own. place_seen own c.args.self.now.remote c.args.number (Some c.in-Some.seen)) stands.own_is
    ∙ ap (λ remote. place_seen p.envelope.own remote c.args.number (Some c.in-Some.seen)) stands.remote_is
    ∙ place_is p c.args.number (Some c.in-Some.seen) (sym c.in-Some.is ∙ c.at.ensures p.sessions stands.slots_stand)
