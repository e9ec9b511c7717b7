use Rattle.std.proofs.Common.{◌<◌, List, length, ap, sym, subst, ◌∙◌}
use Rattle.std.specs.Prelude.{nat_le}
use Rattle.client_table.specs.declared.key.Key.{Key}
use Rattle.client_table.specs.Sound.{are_below, rise_from}
use Rattle.client_table.proofs.Lists.{length_without, remove_is}
use Rattle.client_table.proofs.Pairs.{length_is, value_there}
use Rattle.client_table.proofs.Rising.{below_less, few_less, rise_less}
use Rattle.client_table.proofs.table.ClientTable.take.Goals as goal

pub invariant_of-self : goal.invariant_of-self
invariant_of-self g c =
    let t = c.args.self.now in
    record {
      paired =
          ap length (c.remove-2.ensures.items ∙ remove_is t.values.items c.args.i)
          ∙ length_without c.args.i t.values.items t.keys.items t.paired
          ∙ sym (ap length (c.remove.ensures.items ∙ remove_is t.keys.items c.args.i));
      rising = ap (rise_from 0 t.admitted) (c.remove.ensures.items ∙ remove_is t.keys.items c.args.i) ∙ rise_less 0 t.admitted t.keys.items c.args.i t.rising;
      few = ap (λ (keys : List Key). nat_le (length keys) t.most) (c.remove.ensures.items ∙ remove_is t.keys.items c.args.i) ∙ few_less t.most t.keys.items c.args.i t.few;
      peers = ap (are_below t.most) (c.remove.ensures.items ∙ remove_is t.keys.items c.args.i) ∙ below_less t.most t.keys.items c.args.i t.peers;
    }

pub returns-clause-value : goal.returns-clause-value
returns-clause-value g c =
    let t = c.args.self.now in
    value_there t.keys.items t.values.items c.args.i c.remove-2.result t.paired
    (subst (λ n. c.args.i < n) (length_is t.keys.items t.values.items t.paired) c.requires) c.remove-2.ensures.value
