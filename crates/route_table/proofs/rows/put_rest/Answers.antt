use Rattle.std.proofs.Common.{◌≡◌, ◌<◌, length, get_or, Some, sym, ◌∙◌, append_assoc, arith}
use Rattle.std.specs.Prelude.{slice_get}
use Rattle.std.proofs.lemmas.Option.{slice_get-get_or}
use Rattle.vpn_base.specs.Network.{Network}
use Rattle.route_table.proofs.Learning.{rows_of_more}
use Rattle.route_table.proofs.rows.put_rest.Goals as goal
use Rattle.route_table.proofs.rows.put_rest.Goals.{in-Some, in_default}

pub loop-i-preserved : goal.loop-i-preserved
loop-i-preserved c =
    let i = c.loop-i.i in
    let none : Network = record { net = record { 0 = 0 }; len = 0 } in
    elim c.match-item.branch [
      | in-Some w ↦
          let here : slice_get c.args.rest.now i ≡ Some w.in-Some.prefix = sym c.item.ensures ∙ w.in-Some.is in
          record {
            items =
                rw (w.rows-is, w.put.ensures.items, c.loop-i.invariant.items, rows_of_more c.args.cid c.args.rest.now i w.in-Some.prefix here)
                (simp append_assoc);
            capacity = rw w.rows-is (omega (arith, w.put.ensures.capacity, c.loop-i.invariant.capacity));
            room = rw w.rows-is (omega (arith, w.put.ensures.len, c.loop-i.invariant.room));
          }
      | in_default w ↦
          let within : i < length c.args.rest.now = omega (arith, c.loop-i-test.true, c.count-i-end.ensures) in
          absurd (w.in_default.not-Some (get_or c.args.rest.now i none) (c.item.ensures ∙ slice_get-get_or c.args.rest.now i none within))
    ]
