use Rattle.client_table.specs.PeerIds.{free_peer_id}
use Rattle.client_table.specs.Tables.{entries_of}
use Rattle.server_state.proofs.Counted.{free_is}
use Rattle.server_state.proofs.room.peer_ids_are_given_alike.Goals as goal

pub returns : goal.returns
returns g c core t h =
    free_is g.S.ClientSession.stands core t (free_peer_id (entries_of core.clients)) h (c.peer_ids_are_the_least_free.ensures (entries_of core.clients))
