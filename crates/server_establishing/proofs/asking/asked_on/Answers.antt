use Rattle.std.proofs.Common.{sym, ap, ◌∙◌}
use Rattle.server_establishing.specs.internal.Asking.{asked_on}
use Rattle.server_establishing.proofs.Again.{stands_for}
use Rattle.server_establishing.proofs.asking.asked_on.Goals as goal

pub returns-then-asks_push : goal.returns-then-asks_push
returns-then-asks_push g c t x h there =
    let l = c.places_tell_of_clients.ensures.there c.args.core.now t c.args.cid.0 c.in-Some.i h (sym c.place.ensures.place ∙ c.in-Some.is) in
    let of = stands_for g.S.ClientSession.stands c.args.core.now t c.args.cid.0 c.in-Some.i c.look_at-client.result.now x l c.look_at-client.ensures there in
    c.first_conn.ensures x.session of.state.session ∙ ap (asked_on x.session) (sym c.if-asks_push.true ∙ c.asks_push.ensures x.session of.state.session)

pub returns : goal.returns
returns g c t x h there =
    let l = c.places_tell_of_clients.ensures.there c.args.core.now t c.args.cid.0 c.in-Some.i h (sym c.place.ensures.place ∙ c.in-Some.is) in
    let of = stands_for g.S.ClientSession.stands c.args.core.now t c.args.cid.0 c.in-Some.i c.look_at-client.result.now x l c.look_at-client.ensures there in
    ap (asked_on x.session) (sym c.if-asks_push.false ∙ c.asks_push.ensures x.session of.state.session)
