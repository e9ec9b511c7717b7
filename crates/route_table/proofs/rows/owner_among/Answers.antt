use Rattle.std.proofs.Common.{◌≡◌, ◌+◌, ◌++◌, ◌∷◌, [], ◌∙◌, true, false, take, arith, refl, sym}
use Rattle.std.proofs.lemmas.List.{take_more}
use Rattle.vpn_base.specs.Network.{contains}
use Rattle.route_table.specs.internal.Walk.{best_after}
use Rattle.route_table.proofs.BestRow.{best_row-push}
use Rattle.route_table.proofs.rows.owner_among.Goals as goal
use Rattle.route_table.proofs.rows.owner_among.Goals.{then-contains, else-contains}

pub loop-row-preserved : goal.loop-row-preserved
loop-row-preserved g c =
    let rows = c.args.rows.now in
    let i = c.loop-row.row-index in
    let row = c.row-item.result in
    let more : take (i + 1) rows ≡ take i rows ++ row ∷ [] = grind (arith, take_more rows i row c.loop-row-test.true, c.row-item.is) in
    let step : c.if-contains.best ≡ best_after c.args.a c.loop-row.best row = elim c.if-contains.branch [
      | then-contains w ↦
          let yes : contains row.0 c.args.a ≡ true = sym c.contains.ensures ∙ w.if-contains.true in
          rw (w.best-is, yes) w.longer_of-best.ensures
      | else-contains w ↦
          let never : contains row.0 c.args.a ≡ false = sym c.contains.ensures ∙ w.if-contains.false in
          rw (w.best-is, never) refl
    ] in
    record {
      best = rw more (rw (best_row-push c.args.a (take i rows) row) (rw (← c.loop-row.invariant.best) step));
      cost = omega arith;
    }
