use Rattle.std.proofs.Common.{option_map, sym, subst, ◌∙◌}
use Rattle.server_table.specs.Lookups.{taken_addresses}
use Rattle.server_table.specs.Endings.{ended}
use Rattle.server_establishing.specs.internal.Taking.{GivesUp}
use Rattle.server_establishing.proofs.GivenUp.{nobody_gives, somebody_gives}
use Rattle.server_establishing.proofs.taking.address_of.Goals as goal

pub returns-in_default : goal.returns-in_default
returns-in_default g c course cause h =
    nobody_gives g.S.ClientSession.stands c.args.core.now course c.args.cid.0 cause
    (c.places_tell_of_clients.ensures.nobody c.args.core.now course.table c.args.cid.0 h (sym c.place.ensures.place ∙ c.in_default.is))

pub returns-in-None : goal.returns-in-None
returns-in-None g c course cause h =
    let core = c.args.core.now in
    let m = c.args.cid.0 in
    subst (λ o. GivesUp (option_map (λ p. p.0) o) (taken_addresses course.table) (taken_addresses (ended m cause course).table)) c.in-None.is
    (somebody_gives g.S.ClientSession.stands core course m cause c.in-Some.i c.look_at.result.now
    (c.places_tell_of_clients.ensures.there core course.table m c.in-Some.i h (sym c.place.ensures.place ∙ c.in-Some.is)) c.look_at.ensures)

pub returns-in-Some-established : goal.returns-in-Some-established
returns-in-Some-established g c course cause h =
    let core = c.args.core.now in
    let m = c.args.cid.0 in
    subst (λ o. GivesUp (option_map (λ p. p.0) o) (taken_addresses course.table) (taken_addresses (ended m cause course).table)) c.in-Some-established.is
    (somebody_gives g.S.ClientSession.stands core course m cause c.in-Some.i c.look_at.result.now
    (c.places_tell_of_clients.ensures.there core course.table m c.in-Some.i h (sym c.place.ensures.place ∙ c.in-Some.is)) c.look_at.ensures)
