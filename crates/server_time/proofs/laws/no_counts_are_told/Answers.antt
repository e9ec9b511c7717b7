use Rattle.server_time.proofs.Untold.{untold}
use Rattle.server_time.proofs.laws.no_counts_are_told.Goals as goal

pub returns : goal.returns
returns c course none = untold course none
