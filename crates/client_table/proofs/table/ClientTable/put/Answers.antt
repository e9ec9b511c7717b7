use Rattle.std.proofs.Common.{◌+◌, ◌<◌, List, None, length, ap, subst, sym, ◌∙◌, refl}
use Rattle.std.specs.Prelude.{nat_le}
use Rattle.client_table.specs.declared.key.Key.{Key}
use Rattle.client_table.proofs.Pairs.{length_is}
use Rattle.client_table.proofs.Rising.{below_more, few_more, paired_more, rise_more}
use Rattle.client_table.specs.Sound.{are_below, rise_from}
use Rattle.client_table.proofs.table.ClientTable.put.Goals as goal

pub invariant_of-self : goal.invariant_of-self
invariant_of-self g c =
    let t = c.args.self.now in
    let key : Key = record { number = record { 0 = t.admitted }; peer_id = c.args.peer_id; address = c.args.from; sid = c.args.sid; name = None } in
    record {
      paired = ap length c.append-2.ensures ∙ paired_more t.keys.items t.values.items key c.args.value t.paired ∙ sym (ap length c.append.ensures);
      rising = ap (rise_from 0 (t.admitted + 1)) c.append.ensures ∙ rise_more 0 t.admitted t.keys.items key refl t.rising;
      few = ap (λ (keys : List Key). nat_le (length keys) t.most) c.append.ensures
          ∙ few_more t.most t.keys.items key (subst (λ n. n < t.most) (length_is t.keys.items t.values.items t.paired) c.requires.room);
      peers = ap (are_below t.most) c.append.ensures ∙ below_more t.most t.keys.items key c.requires.peer_id t.peers;
    }
