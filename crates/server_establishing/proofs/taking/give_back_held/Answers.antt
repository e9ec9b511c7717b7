use Rattle.server_establishing.proofs.Held.{back_stands}
use Rattle.server_establishing.proofs.taking.give_back_held.Goals as goal

pub returns-in-Some-clause-stands : goal.returns-in-Some-clause-stands
returns-in-Some-clause-stands g c t h =
    back_stands g.S.ClientSession.stands c.args.core.now t c.give_back.new.self c.in-Some.a h c.in-Some.is c.give_back.ensures.given
