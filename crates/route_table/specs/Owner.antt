-- Who owns an address, by one walk over the rows in the order in which they were added.
use Rattle.std.specs.Prelude.{◌==◌, ◌&&◌, nat_lt, not, Bool, false, List, [], ◌∷◌, filter, Option, Some, None, option_map, if◌then◌else◌}
use Rattle.vpn_base.specs.declared.address.Ip4.{Ip4}
use Rattle.vpn_base.specs.declared.names.Cid.{Cid}
use Rattle.vpn_base.specs.Network.{Network, contains}

-- a network and the client that it was added for
abbrev pub Row : Type 0
Row = Network × Cid

-- of a row and the best of those behind it, the one with the longer prefix, or the later one
abbrev pub better : Ip4 → Row → Option Row → Option Row
better a row None = if contains row.0 a then Some row else None
better a row (Some later) = if contains row.0 a && nat_lt later.0.len row.0.len then Some row else Some later

-- of the rows that contain the address the one with the longest prefix, of equally long ones the last
abbrev pub best_row : List Row → Ip4 → Option Row
best_row [] a = None
best_row (row ∷ rows) a = better a row (best_row rows a)

-- its client
unfoldable pub owner : List Row → Ip4 → Option Cid
owner rows a = option_map (λ row. row.1) (best_row rows a)

-- whether an owner was found and is this client
abbrev pub is_owned_by : Cid → Option Cid → Bool
is_owned_by cid None = false
is_owned_by cid (Some found) = found.0 == cid.0

-- the rows of all other clients, in their order
abbrev pub without : List Row → Cid → List Row
without rows cid = filter (λ row. not (row.1.0 == cid.0)) rows
