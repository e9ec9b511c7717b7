use Rattle.std.proofs.Common.{Some, None, slice_get, sym, ap, ◌∙◌}
use Rattle.client_table.proofs.Pairs.{value_found}
use Rattle.client_table.proofs.table.ClientTable.get.Goals as goal

pub returns-in-None : goal.returns-in-None
returns-in-None g c =
    let t = c.args.self.now in
    value_found c.args.cid.0 t.keys.items t.values.items None t.paired (sym c.in-None.is ∙ c.place.ensures.place)

pub returns-in-Some : goal.returns-in-Some
returns-in-Some g c =
    let t = c.args.self.now in
    c.item.ensures
    ∙ ap (λ xs. slice_get xs c.in-Some.i) c.deref.ensures.value
    ∙ value_found c.args.cid.0 t.keys.items t.values.items (Some c.in-Some.i) t.paired (sym c.in-Some.is ∙ c.place.ensures.place)
