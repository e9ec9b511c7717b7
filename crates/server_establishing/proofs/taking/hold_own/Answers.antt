use Rattle.std.proofs.Common.{Some}
use Rattle.server_establishing.proofs.Held.{held_stands, none_stands}
use Rattle.server_establishing.proofs.taking.hold_own.Goals as goal

pub returns-in-Ok-clause-stands : goal.returns-in-Ok-clause-stands
returns-in-Ok-clause-stands g c t h =
    held_stands g.S.ClientSession.stands c.args.core.now t c.take_own.new.pool (Some c.args.own) h c.requires.none_held c.in-Ok.ensures.takes

pub returns-in-Err-clause-stands : goal.returns-in-Err-clause-stands
returns-in-Err-clause-stands g c t h =
    none_stands g.S.ClientSession.stands c.args.core.now t c.take_own.new.pool h c.requires.none_held c.in-Err.ensures.err
