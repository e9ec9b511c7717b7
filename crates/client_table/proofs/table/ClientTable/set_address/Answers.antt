use Rattle.std.proofs.Common.{List, length, refl, ap, sym, ◌∙◌}
use Rattle.std.specs.Prelude.{nat_le}
use Rattle.client_table.specs.declared.key.Key.{Key}
use Rattle.client_table.specs.Changes.{with_address}
use Rattle.client_table.specs.Sound.{are_below, rise_from}
use Rattle.client_table.proofs.Lists.{length_changed}
use Rattle.client_table.proofs.Rising.{below_changed, few_changed, rise_changed}
use Rattle.client_table.proofs.table.ClientTable.set_address.Goals as goal

pub invariant_of-self : goal.invariant_of-self
invariant_of-self g c =
    let t = c.args.self.now in
    let change = with_address c.args.to in
    record {
      paired = t.paired ∙ sym (ap length c.change_address.ensures ∙ length_changed c.args.i change t.keys.items);
      rising = ap (rise_from 0 t.admitted) c.change_address.ensures ∙ rise_changed 0 t.admitted t.keys.items c.args.i change (λ k. refl) ∙ t.rising;
      few = ap (λ (keys : List Key). nat_le (length keys) t.most) c.change_address.ensures ∙ few_changed t.most t.keys.items c.args.i change t.few;
      peers = ap (are_below t.most) c.change_address.ensures ∙ below_changed t.most t.keys.items c.args.i change (λ k. refl) ∙ t.peers;
    }
