use Rattle.std.proofs.Common.{◌<◌, IfSome, Option, Some, None, slice_get, sym, ap, subst, ◌∙◌}
use Rattle.client_table.specs.declared.key.Key.{Key}
use Rattle.client_table.proofs.Pairs.{key_found}
use Rattle.client_table.proofs.Rising.{below_at}
use Rattle.client_table.proofs.table.ClientTable.key.Goals as goal

pub returns-in-None-clause-key : goal.returns-in-None-clause-key
returns-in-None-clause-key g c =
    let t = c.args.self.now in
    key_found c.args.cid.0 t.keys.items t.values.items None t.paired (sym c.in-None.is ∙ c.place.ensures.place)

pub returns-in-Some-clause-below : goal.returns-in-Some-clause-below
returns-in-Some-clause-below g c =
    let t = c.args.self.now in
    subst (λ (o : Option Key). IfSome o (λ k. k.peer_id < t.most)) (sym (c.item.ensures ∙ ap (λ xs. slice_get xs c.in-Some.i) c.deref.ensures.value))
    (below_at t.most t.keys.items (Some c.in-Some.i) t.peers)

pub returns-in-Some-clause-key : goal.returns-in-Some-clause-key
returns-in-Some-clause-key g c =
    let t = c.args.self.now in
    c.item.ensures
    ∙ ap (λ xs. slice_get xs c.in-Some.i) c.deref.ensures.value
    ∙ key_found c.args.cid.0 t.keys.items t.values.items (Some c.in-Some.i) t.paired (sym c.in-Some.is ∙ c.place.ensures.place)
