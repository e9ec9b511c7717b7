use Rattle.std.proofs.Common.{sym, ◌∙◌}
use Rattle.server_establishing.proofs.Again.{address_is, again_is, none_is, stands_for}
use Rattle.server_establishing.proofs.replying.prepare_again.Goals as goal

pub returns-in_default-established : goal.returns-in_default-established
returns-in_default-established g c t x e h there has =
    let means = g.S.ClientSession.stands in
    let v = c.look_at-client.result.now in
    let l = c.places_tell_of_clients.ensures.there c.args.core.now t c.args.cid.0 c.in-Some.i h (sym c.place.ensures.place ∙ c.in-Some.is) in
    none_is means v x e (stands_for means c.args.core.now t c.args.cid.0 c.in-Some.i v x l c.look_at-client.ensures there) c.in_default-established.is has

pub returns-in-Ok : goal.returns-in-Ok
returns-in-Ok g c t x e h there has =
    let means = g.S.ClientSession.stands in
    let v = c.look_at-client.result.now in
    let l = c.places_tell_of_clients.ensures.there c.args.core.now t c.args.cid.0 c.in-Some.i h (sym c.place.ensures.place ∙ c.in-Some.is) in
    let of = stands_for means c.args.core.now t c.args.cid.0 c.in-Some.i v x l c.look_at-client.ensures there in
    again_is c.args.core.now.settings c.file_of-file.result.now c.peer_id_of-peer_id.result e c.in-Ok.replies t x h.settings
    (c.file_of-file.ensures x.session.name x.file of.file) (c.peer_id_of-peer_id.ensures t x h there)
    (c.in-Ok.ensures e (address_is means v x e _ of c.in-Some-established.is has))
