use Rattle.std.proofs.Common.{sym, ◌∙◌}
use Rattle.server_data.proofs.Learned.{host_is}
use Rattle.server_data.proofs.hosts.is_host.Goals as goal

pub returns-in-Some : goal.returns-in-Some
returns-in-Some g c t h =
    host_is g.S.ClientSession.stands c.args.core.now t c.args.cid.0 c.in-Some.i c.args.host c.look_at.result.now c.is_own.result
    (c.places_tell_of_clients.ensures.there c.args.core.now t c.args.cid.0 c.in-Some.i h (sym c.place.ensures.place ∙ c.in-Some.is))
    c.look_at.ensures c.is_own.ensures
