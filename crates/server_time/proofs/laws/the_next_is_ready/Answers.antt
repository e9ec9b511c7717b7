use Rattle.server_time.proofs.Next.{all_are, next_is_ready}
use Rattle.server_time.proofs.laws.the_next_is_ready.Goals as goal

pub returns-clause-all : goal.returns-clause-all
returns-clause-all g c core = all_are core.clients

pub returns-clause-next : goal.returns-clause-next
returns-clause-next g c core n m effects bytes next ready = next_is_ready g.S.ClientSession.is_ready core n m effects bytes next ready
