use Rattle.server_table.proofs.laws.the_pool_gives_free_addresses.Goals as goal
use Rattle.server_table.proofs.Pool.{given_free}

pub returns : goal.returns
returns c = given_free
