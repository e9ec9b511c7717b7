use Rattle.std.proofs.Common.{◌≡◌, ◌≤◌, length, ◌-◌}
use Rattle.client_table.specs.Finding.{has_peer_id}
use Rattle.client_table.specs.PeerIds.{unused_from}
use Rattle.client_table.proofs.search.free_in.Given as goal

abbrev pub invariant-loop-peer_id : goal.invariant-loop-peer_id
invariant-loop-peer_id l =
    (l.peer_id ≤ length l.keys)
    × (unused_from has_peer_id (length l.keys - l.peer_id) l.peer_id l.keys ≡ unused_from has_peer_id (length l.keys) 0 l.keys)

abbrev pub decreases-loop-peer_id : goal.decreases-loop-peer_id
decreases-loop-peer_id l = length l.keys - l.peer_id
