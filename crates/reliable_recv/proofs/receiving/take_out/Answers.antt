use Rattle.std.proofs.Common.{Some, sym, ap, ◌∙◌}
use Rattle.reliable_recv.specs.Receiving.{Arrival}
use Rattle.reliable_recv.proofs.Payloads.{place_at, none_at, payload_of-remove}
use Rattle.reliable_recv.proofs.Soundness.{once_less, none_is_left}
use Rattle.reliable_recv.proofs.receiving.take_out.Goals as goal

pub returns-in_err-place-clause-payload : goal.returns-in_err-place-clause-payload
returns-in_err-place-clause-payload c = c.from_residual.ensures ∙ sym (none_at c.args.held.now.items c.args.id (rw c.deref.ensures.value at c.in_err-place.ensures.place))

pub returns-clause-payload : goal.returns-clause-payload
returns-clause-payload c =
    let here = place_at c.args.held.now.items c.args.id c.in_ok-place.place (rw c.deref.ensures.value at c.in_ok-place.ensures.place) in
    sym (here.payload c.remove-payload.result ∙ ap (λ (a : Arrival). Some a.1) (sym c.remove-payload.ensures.value))

pub returns-clause-others : goal.returns-clause-others
returns-clause-others c = λ other ne.
    let here = place_at c.args.held.now.items c.args.id c.in_ok-place.place (rw c.deref.ensures.value at c.in_ok-place.ensures.place) in
    rw c.remove-payload.ensures.items (payload_of-remove c.args.held.now.items c.args.id c.in_ok-place.place other here ne)

pub returns-in_err-place-clause-once : goal.returns-in_err-place-clause-once
returns-in_err-place-clause-once c = λ once. (once, none_at c.args.held.now.items c.args.id (rw c.deref.ensures.value at c.in_err-place.ensures.place))

pub returns-clause-once : goal.returns-clause-once
returns-clause-once c = λ once.
    let here = place_at c.args.held.now.items c.args.id c.in_ok-place.place (rw c.deref.ensures.value at c.in_ok-place.ensures.place) in
    rw c.remove-payload.ensures.items (once_less c.args.held.now.items c.in_ok-place.place once, none_is_left c.args.held.now.items c.args.id c.in_ok-place.place once here)
