use Rattle.server_engine.proofs.Names.{known_fits, new_fits}
use Rattle.server_engine.proofs.laws.names_fit.Goals as goal

pub returns-clause-known : goal.returns-clause-known
returns-clause-known c longest kind now p fits = known_fits longest kind now p fits

pub returns-clause-given : goal.returns-clause-given
returns-clause-given c longest conn name now p most none = new_fits longest conn name now p most none
