use Rattle.std.proofs.Common.{[], refl}
use Rattle.server_establishing.proofs.taking.take_own.Goals as goal

pub returns-in-Ok-clause-takes : goal.returns-in-Ok-clause-takes
returns-in-Ok-clause-takes c t h = c.in-Ok.ensures.ok t [] t.taken h refl
