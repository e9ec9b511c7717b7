use Rattle.server_laws.proofs.HavePlaces.{control_has, data_has}
use Rattle.server_laws.proofs.datagrams.what_is_taken_has_a_place.Goals as goal

pub returns-clause-control : goal.returns-clause-control
returns-clause-control c = control_has

pub returns-clause-data : goal.returns-clause-data
returns-clause-data c = data_has
