use Rattle.std.proofs.Common.{◌≡◌, ◌-◌, ◌≤◌, ◌<◌, ap, sym, subst, ◌∙◌, inl, inr, length, arith}
use Rattle.std.proofs.lemmas.Bool.{cases_lt}
use Rattle.reliable_send.specs.Sending.{acked}
use Rattle.reliable_send.specs.Sides.{IsKeptOf, Side, Stands}
use Rattle.reliable_send.specs.internal.Walks.{alter, mark}
use Rattle.reliable_send.proofs.Altered.{length-alter}
use Rattle.reliable_send.proofs.Soundness.{leading_le, sound_acked}
use Rattle.reliable_send.proofs.Standing.{stands_acked, stands_acked_before}
use Rattle.reliable_send.proofs.side.SendSide.acked.Goals as goal

pub returns-in_default-clause-stands : goal.returns-in_default-clause-stands
unfolding Stands
returns-in_default-clause-stands c = λ h s.
    let below : c.args.id < c.self.inside.first = elim (cases_lt c.args.id c.self.inside.first) [ inl k ↦ k | inr k ↦ absurd (c.in_default.ensures (omega (arith, c.from.ensures))) ] in
    let before = subst (λ (w : Side). IsKeptOf w.kept h) (sym c.self.view_is) s in
    subst (λ (w : Side). IsKeptOf w.kept (acked h c.args.id)) c.self.view_is (stands_acked_before _ h c.args.id below before)

pub overflow_add-self : goal.overflow_add-self
overflow_add-self c =
    let few = leading_le c.mark_at.new.pieces.items in
    let same = ap length c.mark_at.ensures.marked ∙ length-alter mark c.in-Some.place c.self.inside.pieces.items in
    omega (arith, few, same, c.self.invariant.ids_fit, c.drop_acknowledged.ensures.count)

pub invariant_of-self : goal.invariant_of-self
invariant_of-self c =
    let w = c.self.inside in
    rw (c.drop_acknowledged.ensures.rest, c.drop_acknowledged.ensures.count) (sound_acked w.timeout w.first c.in-Some.place w.pieces.items c.mark_at.new.pieces.items c.mark_at.ensures.marked c.self.invariant)

pub returns-clause-stands : goal.returns-clause-stands
unfolding Stands
returns-clause-stands c = λ h s.
    let w = c.self.inside in
    let before = subst (λ (w : Side). IsKeptOf w.kept h) (sym c.self.view_is) s in
    let from : w.first ≤ c.args.id = omega (arith, c.in-Some.ensures.0, c.from.ensures) in
    let place : c.in-Some.place ≡ c.args.id - w.first = omega (arith, c.in-Some.ensures.1, c.from.ensures) in
    let marked : c.mark_at.new.pieces.items ≡ alter mark (c.args.id - w.first) w.pieces.items = c.mark_at.ensures.marked ∙ ap (λ k. alter mark k w.pieces.items) place in
    rw (c.drop_acknowledged.ensures.rest, c.drop_acknowledged.ensures.count) (stands_acked _ h c.args.id c.mark_at.new.pieces.items marked from before)
