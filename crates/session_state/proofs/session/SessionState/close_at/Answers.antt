use Rattle.std.proofs.Common.{Some, None, ◌++◌, ◌∷◌, [], ap, sym, ◌∙◌, refl, arith}
use Rattle.vpn_links.specs.Actions.{EngineClose, Holds}
use Rattle.session_state.specs.Standing.{PeerStands}
use Rattle.session_state.proofs.Ends.{closing_is, ok_value}
use Rattle.std.proofs.lemmas.List.{append-nil}
use Rattle.session_state.proofs.session.SessionState.close_at.Goals as goal

pub returns-in-None-clause-closed : goal.returns-in-None-clause-closed
unfolding PeerStands
returns-in-None-clause-closed g c = λ p stands.
    (sym (append-nil c.args.out.now.effects) ∙ ap (λ es. c.args.out.now.effects ++ es) (closing_is p.role p.sessions c.args.number None (sym c.in-None.is ∙ c.at.ensures p.sessions stands.slots_stand)), refl)

pub returns-clause-closed : goal.returns-clause-closed
unfolding PeerStands
returns-clause-closed g c = λ p stands.
    let added : Holds c.add-added.new.self (c.args.out.now.effects ++ EngineClose c.in-Some.seen.conn ∷ []) c.args.out.now.staged =
    ok_value c.add-added.result _ (c.add-added.ensures.fits c.requires (omega arith)) c.add-added.ensures.ok in (
      added.0 ∙ ap (λ es. c.args.out.now.effects ++ es)
          (closing_is p.role p.sessions c.args.number (Some c.in-Some.seen) (sym c.in-Some.is ∙ c.at.ensures p.sessions stands.slots_stand)),
      added.1,
    )
