-- What holds of every table that a run of the server comes to.
use Rattle.std.specs.Prelude.{◌≡◌, ℕ, ◌^◌, ◌≤◌, is_some, Bool, true, List, Some, slice_get}
use Rattle.std.specs.List.{AllByRecursion}
use Rattle.vpn_base.specs.declared.address.Addr.{Addr}
use Rattle.vpn_base.specs.declared.names.Sid.{Sid}
use Rattle.route_table.specs.Owner.{Row}
use Rattle.peer_table.specs.Orderly.{IsOrderly}
use Rattle.server_table.specs.Table.{Client, Table}
use Rattle.server_table.specs.Lookups.{has_peer_id, has_session}

-- the key sessions of each client are orderly, those of clients that have ended too
abbrev pub AreOrderly : List Client → Type 0
AreOrderly clients = (n : ℕ) (x : Client) → slice_get clients n ≡ Some x → IsOrderly x.session.sessions

-- at most one client passes
abbrev pub AtMostOne : (Client → Bool) → List Client → Type 0
AtMostOne passes clients =
    (m n : ℕ) (x y : Client) → slice_get clients m ≡ Some x → slice_get clients n ≡ Some y → passes x ≡ true → passes y ≡ true → m ≡ n

-- the client of this number is here and established
pub record IsEstablishedAt (clients : List Client) (n : ℕ) : Type 0 where
  pub client : Client
  pub there : slice_get clients n ≡ Some client
  pub here : client.is_here ≡ true
  pub established : is_some client.established ≡ true

-- each row is that of a client that is here and established
abbrev pub AreRowsOf : List Client → List Row → Type 0
AreRowsOf clients rows = AllByRecursion (λ (row : Row). IsEstablishedAt clients row.1.0) rows

-- The moment is one of a run. The key sessions of each client are orderly, so that at most three are open. No two clients that are here
-- have one peer id, nor one address with one session id. Each row is that of a client that is here and established.
pub record IsSound (t : Table) : Type 0 where
  pub moment : t.moment ≤ 2 ^ 52
  pub orderly : AreOrderly t.clients
  pub peer_ids : (peer_id : ℕ) → AtMostOne (has_peer_id peer_id) t.clients
  pub sessions : (from : Addr) (sid : Sid) → AtMostOne (has_session from sid) t.clients
  pub rows : AreRowsOf t.clients t.routes.rows
