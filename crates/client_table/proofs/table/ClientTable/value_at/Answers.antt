use Rattle.std.proofs.Common.{refl, subst, ◌<◌}
use Rattle.client_table.proofs.Lending.{same_table}
use Rattle.client_table.proofs.Pairs.{length_is, value_there}
use Rattle.client_table.proofs.table.ClientTable.value_at.Goals as goal

pub returns : goal.returns
returns g c =
    let t = c.args.self.now in
    let within = subst (λ n. c.args.i < n) (length_is t.keys.items t.values.items t.paired) c.requires in (
      (refl, λ w. same_table t c.args.i w _ _ _ _),
      record { lends = tt; value = value_there t.keys.items t.values.items c.args.i c.index_mut.result.now t.paired within c.index_mut.ensures.value },
    )
