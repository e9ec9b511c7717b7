use Rattle.server_table.proofs.laws.an_end_gives_everything_up.Goals as goal
use Rattle.server_table.proofs.GivenUp.{given_up}

pub returns : goal.returns
returns c = given_up
