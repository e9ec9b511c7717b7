use Rattle.server_establishing.proofs.Held.{held_stands, least_is, none_stands}
use Rattle.server_establishing.proofs.taking.hold_least.Goals as goal

pub returns-in-Ok-clause-least : goal.returns-in-Ok-clause-least
returns-in-Ok-clause-least g c n course h =
    least_is g.S.ClientSession.stands c.args.core.now n c.args.name.now course c.in-Ok.a c.given_up-given_up.result h c.requires.none_held
    c.in-Ok.ensures.least (c.given_up-given_up.ensures n course h)

pub returns-in-Ok-clause-stands : goal.returns-in-Ok-clause-stands
returns-in-Ok-clause-stands g c t h =
    held_stands g.S.ClientSession.stands c.args.core.now t c.take_least.new.pool c.in-Ok.a h c.requires.none_held c.in-Ok.ensures.takes

pub returns-in-Err-clause-stands : goal.returns-in-Err-clause-stands
returns-in-Err-clause-stands g c t h =
    none_stands g.S.ClientSession.stands c.args.core.now t c.take_least.new.pool h c.requires.none_held c.in-Err.ensures.err
