use Rattle.std.proofs.Common.{option_map, sym, ap, ◌∙◌}
use Rattle.client_table.specs.declared.key.Key.{Key}
use Rattle.server_table.specs.Table.{Client}
use Rattle.server_establishing.proofs.Placed.{some_is}
use Rattle.server_establishing.proofs.preparing.peer_id_of.Goals as goal

pub returns-in-Some : goal.returns-in-Some
returns-in-Some g c t x h there =
    let l = c.places_tell_of_clients.ensures.there c.args.core.now t c.args.cid.0 c.in-Some.i h (sym c.place.ensures.place ∙ c.in-Some.is) in
    let key = some_is c.key_at.result.now l.entry.key (sym c.key_at.ensures ∙ ap (λ o. option_map (λ e. e.key) o) l.entry_there) in
    ap (λ (k : Key). k.peer_id) key ∙ l.stands.peer_id ∙ ap (λ (x : Client). x.peer_id) (some_is l.client x (sym l.client_there ∙ there))
