use Rattle.std.proofs.Common.{◌<◌, length, IfSome, sym, ap, subst, ◌∙◌}
use Rattle.client_table.specs.Changes.{by_key, item_at, place_where}
use Rattle.client_table.specs.Finding.{has_number}
use Rattle.client_table.specs.Tables.{entries_of}
use Rattle.client_table.proofs.Lists.{at_first, first_within}
use Rattle.client_table.proofs.Pairs.{place_is}
use Rattle.client_table.proofs.table.ClientTable.place.Goals as goal

pub returns-clause-there : goal.returns-clause-there
returns-clause-there g c =
    let t = c.args.self.now in
    let passes = has_number c.args.cid.0 in
    ap (item_at (entries_of t)) (c.place_in.ensures ∙ ap (place_where passes) c.deref.ensures.value ∙ place_is passes t.keys.items t.values.items t.paired)
    ∙ at_first (by_key passes) (entries_of t)

pub returns-clause-within : goal.returns-clause-within
returns-clause-within g c =
    let t = c.args.self.now in
    let passes = has_number c.args.cid.0 in
    subst (λ o. IfSome o (λ i. i < length (entries_of t)))
    (sym (c.place_in.ensures ∙ ap (place_where passes) c.deref.ensures.value ∙ place_is passes t.keys.items t.values.items t.paired))
    (first_within (by_key passes) (entries_of t))
