use Rattle.std.proofs.Common.{sym, ap, subst, ◌∙◌, option_map}
use Rattle.server_table.specs.Table.{Client}
use Rattle.server_establishing.specs.Ahead.{lease_of}
use Rattle.server_establishing.proofs.Placed.{some_is}
use Rattle.server_establishing.proofs.Established.{established_stands}
use Rattle.server_establishing.proofs.placing.establish_at.Goals as goal

pub returns-clause-established : goal.returns-clause-established
returns-clause-established g c before course x h there none named file replies =
    let means = g.S.ClientSession.stands in
    let core = c.args.core.now in
    let i = c.in-Some.i in
    let place = sym c.place.ensures.place ∙ c.in-Some.is in
    let l = c.places_tell_of_clients.ensures.there core course.table c.args.cid.0 i h.table place in
    let same = some_is l.client x (sym l.client_there ∙ there) in
    let cipher = c.cipher_at-cipher.ensures l.entry.value x (ap (λ o. option_map (λ e. e.value) o) l.entry_there)
    (subst (λ (x : Client). means l.entry.value.session x.session) same l.stands.state.session) in
    established_stands means before core c.take_place.new.core course x c.args.cid.0 c.args.conn (lease_of c.args.lease.now) c.args.file.now c.add_rows.new.routes
    c.args.out.now c.write.new.out c.say_establishing.new.out h (c.take_place.ensures.placed course.table x h.table there none named)
    c.take_place.ensures.turn c.take_place.ensures.mark file c.add_rows.ensures
    (c.write.ensures.reply course.table.settings x (lease_of c.args.lease.now) replies cipher)
    (c.say_establishing.ensures.said x file)
