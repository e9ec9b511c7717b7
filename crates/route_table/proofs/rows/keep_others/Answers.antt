use Rattle.std.proofs.Common.{◌==◌, length, ap, arith, rules}
use Rattle.std.specs.Prelude.{not}
use Rattle.std.proofs.lemmas.Fn.{filter_same}
use Rattle.std.proofs.lemmas.List.Sums.{length-filter, count_by-le-length}
use Rattle.route_table.specs.Owner.{Row}
use Rattle.route_table.proofs.rows.keep_others.Goals as goal

pub returns-clause-items : goal.returns-clause-items
returns-clause-items c = filter_same _ (λ row. not (row.1.0 == c.args.cid.0)) _ (λ x b f k. search rules) _ _ c.retain.ensures.filtered

pub returns-clause-fewer : goal.returns-clause-fewer
returns-clause-fewer c =
    let rows = c.args.rows.now.items in
    let others = λ (row : Row). not (row.1.0 == c.args.cid.0) in
    let items = ap length (returns-clause-items c) in
    let fewer = length-filter others rows in
    let most = count_by-le-length others rows in
    omega (arith, items, fewer, most)
