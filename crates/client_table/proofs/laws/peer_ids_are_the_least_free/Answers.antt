use Rattle.client_table.proofs.PeerIds.{least_is}
use Rattle.client_table.proofs.laws.peer_ids_are_the_least_free.Goals as goal

pub returns : goal.returns
returns g c es = least_is (λ e. e.key.peer_id) es
