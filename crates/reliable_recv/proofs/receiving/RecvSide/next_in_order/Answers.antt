use Rattle.std.proofs.Common.{◌≡◌, ◌+◌, Some, None, sym, ap, subst, ◌∙◌}
use Rattle.reliable_recv.specs.Receiving.{next_payload, after_next}
use Rattle.reliable_recv.specs.Sides.{IsKeptOf, Side, Stands}
use Rattle.reliable_recv.proofs.Standing.{next_is, stands_none, stands_next, read_none, read_some}
use Rattle.reliable_recv.proofs.Soundness.{few_held, near_next}
use Rattle.reliable_recv.proofs.receiving.RecvSide.next_in_order.Goals as goal

none_is : (c : goal.After-from_residual) → next_payload c.args.self.now.kept ≡ None
none_is c = ap (λ (w : Side). next_payload w.kept) (sym c.self.view_is) ∙ sym c.in_err-payload.ensures.payload

pub returns-in_err-payload-clause-exact : goal.returns-in_err-payload-clause-exact
unfolding Stands
returns-in_err-payload-clause-exact c = λ h s. c.from_residual.ensures ∙ sym (none_is c) ∙ next_is c.args.self.now.kept h s

pub returns-in_err-payload-clause-stands : goal.returns-in_err-payload-clause-stands
unfolding Stands
returns-in_err-payload-clause-stands c = λ h s.
    rw c.in_err-payload.ensures.none (subst (λ (w : Side). IsKeptOf w.kept (after_next h)) (sym c.self.view_is) (stands_none c.args.self.now.kept h (none_is c) s))

pub returns-in_err-payload-clause-read : goal.returns-in_err-payload-clause-read
returns-in_err-payload-clause-read c = ap (λ (w : Side). w.kept.read) c.self.view_is ∙ read_none c.args.self.now.kept (none_is c)

some_is : (c : goal.After-self-1) → next_payload c.args.self.now.kept ≡ Some c.in_ok-payload.payload
some_is c = ap (λ (w : Side). next_payload w.kept) (sym c.self.view_is) ∙ sym c.in_ok-payload.ensures.payload

pub returns-clause-exact : goal.returns-clause-exact
unfolding Stands
returns-clause-exact c = λ h s. sym (some_is c) ∙ next_is c.args.self.now.kept h s

pub returns-clause-stands : goal.returns-clause-stands
unfolding Stands
returns-clause-stands c = λ h s.
    stands_next (record { taken = c.self.inside.held.items; read = c.self.inside.read; waiting = c.self.inside.waiting.items }) h c.take_out.new.held.items c.in_ok-payload.payload
    (sym c.in_ok-payload.ensures.payload) (subst (λ (w : Side). IsKeptOf w.kept h) (sym c.self.view_is) s) c.in_ok-payload.ensures.others

pub returns-clause-read : goal.returns-clause-read
returns-clause-read c = ap (λ (w : Side). w.kept.read + 1) c.self.view_is ∙ read_some c.args.self.now.kept c.in_ok-payload.payload (some_is c)

pub returns-in_err-payload-clause-few : goal.returns-in_err-payload-clause-few
returns-in_err-payload-clause-few c = rw c.in_err-payload.ensures.none (few_held c.self.inside.read c.self.inside.held.items c.self.invariant.once c.self.invariant.near)

pub returns-clause-few : goal.returns-clause-few
returns-clause-few c =
    let left = c.in_ok-payload.ensures.once c.self.invariant.once in
    few_held (c.self.inside.read + 1) c.take_out.new.held.items left.0
    (near_next c.self.inside.read c.self.inside.held.items c.take_out.new.held.items c.self.invariant.near c.in_ok-payload.ensures.others left.1)
