use Rattle.std.proofs.Common.{sym, subst}
use Rattle.reliable_send.specs.Sides.{IsKeptOf, Side, Stands}
use Rattle.reliable_send.proofs.Soundness.{sound_counted}
use Rattle.reliable_send.proofs.Standing.{stands_counted, counted_ready, counted_due}
use Rattle.reliable_send.proofs.side.SendSide.count_sent.Goals as goal

pub invariant_of-self : goal.invariant_of-self
invariant_of-self c =
    let w = c.self.inside in
    rw c.count_where.ensures.counted (sound_counted w.started w.first w.timeout c.args.id c.args.now w.pieces.items c.self.invariant)

pub returns-clause-exact : goal.returns-clause-exact
unfolding Stands
returns-clause-exact c = λ h s.
    let before = subst (λ (w : Side). IsKeptOf w.kept h) (sym c.self.view_is) s in
    rw c.count_where.ensures.counted (stands_counted _ h c.args.id c.args.now before)

pub returns-clause-next : goal.returns-clause-next
unfolding Stands
returns-clause-next c = λ h s e. let same = counted_ready h c.args.id c.args.now.0 e in rw same at (returns-clause-exact c h s)

pub returns-clause-again : goal.returns-clause-again
unfolding Stands
returns-clause-again c = λ h s e. let same = counted_due h c.args.id c.args.now.0 e in rw same at (returns-clause-exact c h s)
