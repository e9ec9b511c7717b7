use Rattle.server_engine.proofs.Names.{exchange_stays, known_stays, name_up}
use Rattle.server_engine.proofs.laws.names_stay.Goals as goal

pub returns-clause-known : goal.returns-clause-known
returns-clause-known c kind now p name is = known_stays kind now p name is

pub returns-clause-exchanged : goal.returns-clause-exchanged
returns-clause-exchanged c policy peer_id draw p name is = exchange_stays policy peer_id draw p name is

pub returns-clause-given : goal.returns-clause-given
returns-clause-given c conn name now p none is = (name_up conn name now p none).0 is

pub returns-clause-same : goal.returns-clause-same
returns-clause-same c conn name now p none is = (name_up conn name now p none).1 is
