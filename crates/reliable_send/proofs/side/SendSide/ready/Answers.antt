use Rattle.std.proofs.Common.{◌≡◌, List, length, take, ap, sym, subst, ◌∙◌}
use Rattle.reliable_send.specs.declared.pieces.KeptPiece.{KeptPiece}
use Rattle.reliable_send.specs.declared.pieces.Wanted.TheVariants.{Unsent}
use Rattle.reliable_send.specs.Sides.{IsKeptOf, Side, Stands}
use Rattle.reliable_send.specs.internal.Walks.{found}
use Rattle.reliable_send.proofs.Standing.{ready_is}
use Rattle.reliable_send.proofs.side.SendSide.ready.Goals as goal

pub returns-clause-exact : goal.returns-clause-exact
unfolding Stands
returns-clause-exact c = λ h s.
    let before = subst (λ (w : Side). IsKeptOf w.kept h) (sym c.self.view_is) s in
    let window : c.window.result.now ≡ take 6 c.self.inside.pieces.items = c.window.ensures ∙ ap (take 6) c.deref.ensures.value in
    c.count_found.ensures.exact ∙ ap (λ (ps : List KeptPiece). length (found (Unsent c.self.inside.started) c.self.inside.first ps)) window ∙ ap length (ready_is _ h before)
