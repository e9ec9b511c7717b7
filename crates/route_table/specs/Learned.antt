-- The rows of a table together with the hosts that were learned from the packets of clients.
use Rattle.std.specs.Prelude.{ℕ, ◌==◌, not, Bool, List, [], ◌∷◌, ◌++◌, filter, map, take}
use Rattle.std.specs.List.{list_any}
use Rattle.vpn_base.specs.declared.address.Ip4.{Ip4}
use Rattle.vpn_base.specs.declared.names.Cid.{Cid}
use Rattle.vpn_base.specs.Network.{Network}
use Rattle.route_table.specs.Owner.{Row, owner, is_owned_by, without}

-- an address and the client that it was learned from
abbrev pub Host : Type 0
Host = Ip4 × Cid

-- how many hosts are kept
abbrev pub most_hosts : ℕ
most_hosts = 256

-- this address was learned
abbrev pub is_learned : List Host → Ip4 → Bool
is_learned hosts a = list_any (λ host. host.0.0 == a.0) hosts

-- the hosts of all other addresses, in their order
abbrev pub other_hosts : Ip4 → List Host → List Host
other_hosts a hosts = filter (λ host. not (host.0.0 == a.0)) hosts

-- a host that is learned is taken out and put in front, and the list is cut at its most
unfoldable pub learnt : Ip4 → Cid → List Host → List Host
learnt a cid hosts = take most_hosts ((a, cid) ∷ other_hosts a hosts)

-- those hosts whose owner is still the client that they were learned from, in their order
unfoldable pub kept_hosts : List Row → List Host → List Host
kept_hosts rows hosts = filter (λ host. is_owned_by host.1 (owner rows host.0)) hosts

-- the rows in the order in which they were added, and the learned hosts, the latest first
pub record Table : Type 0 where
  pub rows : List Row
  pub learned : List Host

-- a table with no rows and no hosts
abbrev pub table_empty : Table
table_empty = record { rows = []; learned = [] }

-- the same, and for how many more rows there is room
pub record Contents : Type 0 where
  pub rows : List Row
  pub learned : List Host
  pub spare_rows : ℕ

-- what it holds, whatever room it has
abbrev pub table_of : Contents → Table
table_of c = record { rows = c.rows; learned = c.learned }

-- the table with these rows in place of its own, over which its hosts are judged again
abbrev pub over_rows : List Row → Table → Table
over_rows rows t = record { rows = rows; learned = kept_hosts rows t.learned }

-- rows of networks that a client owns, in their order
abbrev pub rows_of : Cid → List Network → List Row
rows_of cid networks = map (λ network. (network, cid)) networks

-- more rows at the end
abbrev pub with_rows : List Row → Table → Table
with_rows added t = over_rows (t.rows ++ added) t

-- no row of this client
abbrev pub without_client : Cid → Table → Table
without_client cid t = over_rows (without t.rows cid) t

-- a host was learned
abbrev pub with_host : Ip4 → Cid → Table → Table
with_host a cid t = record t { learned = learnt a cid t.learned }
