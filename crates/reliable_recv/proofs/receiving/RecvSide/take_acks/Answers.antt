use Rattle.std.proofs.Common.{length, sym, ap, subst, ◌∙◌}
use Rattle.reliable_recv.specs.Receiving.{Receiving, acks_of, after_acks}
use Rattle.reliable_recv.specs.Sides.{IsKeptOf, Side, Stands}
use Rattle.reliable_recv.proofs.Standing.{acks_is, stands_acks, acks_left}
use Rattle.reliable_recv.proofs.receiving.RecvSide.take_acks.Goals as goal

pub returns-clause-exact : goal.returns-clause-exact
unfolding Stands
returns-clause-exact c = λ h s.
    c.take_ids.ensures.given ∙ ap (λ (w : Side). acks_of w.kept c.args.most) c.self.view_is ∙ acks_is c.args.self.now.kept h c.args.most s

pub returns-clause-new : goal.returns-clause-new
returns-clause-new c =
    rw c.take_ids.ensures.rest (acks_left (record { taken = c.self.inside.held.items; read = c.self.inside.read; waiting = c.self.inside.waiting.items }) c.args.most)
    ∙ ap (λ (w : Side). after_acks w.kept c.args.most) c.self.view_is

pub returns-clause-stands : goal.returns-clause-stands
unfolding Stands
returns-clause-stands c = λ h s.
    subst (λ (w : Receiving). IsKeptOf w (after_acks h c.args.most)) (sym (returns-clause-new c)) (stands_acks c.args.self.now.kept h c.args.most s)

pub returns-clause-count : goal.returns-clause-count
returns-clause-count c = c.take_ids.ensures.count ∙ ap (λ (w : Side). length w.kept.waiting) c.self.view_is
