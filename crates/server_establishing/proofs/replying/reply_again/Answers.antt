use Rattle.std.proofs.Common.{option_map, sym, ap, subst, ◌∙◌}
use Rattle.server_table.specs.Establishing.{ccd_in, leased_to, reply}
use Rattle.server_table.specs.Table.{Client}
use Rattle.server_establishing.proofs.Again.{did_all_stands}
use Rattle.server_establishing.proofs.Placed.{some_is}
use Rattle.server_establishing.proofs.replying.reply_again.Goals as goal

pub returns-clause-replied : goal.returns-clause-replied
returns-clause-replied g c before course x e h there replies =
    let means = g.S.ClientSession.stands in
    let core = c.args.core.now in
    let a = leased_to course.table.settings (ccd_in x.file).address e in
    let l = c.places_tell_of_clients.ensures.there core course.table c.args.cid.0 c.in-Some.i h.table (sym c.place.ensures.place ∙ c.in-Some.is) in
    let cipher = c.cipher_at.ensures l.entry.value x (ap (λ o. option_map (λ e. e.value) o) l.entry_there)
    (subst (λ (x : Client). means l.entry.value.session x.session) (some_is l.client x (sym l.client_there ∙ there)) l.stands.state.session) in
    did_all_stands means before core c.args.out.now c.write.new.out (reply course.table.settings x a c.args.conn) course h
    (c.write.ensures.reply course.table.settings x a replies cipher)
