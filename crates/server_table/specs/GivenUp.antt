-- What is left of a client that has ended.
use Rattle.std.specs.Prelude.{◌≡◌, ◌≢◌, ℕ, false, None, Some, slice_get}
use Rattle.std.specs.List.{AllByRecursion}
use Rattle.peer_table.specs.KeySessions.{is_open}
use Rattle.peer_table.specs.Orderly.{how_many}
use Rattle.route_table.specs.Owner.{Row}
use Rattle.route_table.specs.Learned.{Host}
use Rattle.server_table.specs.Table.{Client}
use Rattle.server_table.specs.Lookups.{client_here, has_peer_id}
use Rattle.server_table.specs.Courses.{Course, Staged}

-- A client of this number has given up everything: it is not here, none of its key sessions is open, nobody that is here has its peer id,
-- no row and no learned host is its own, and no control datagram goes to it.
pub record IsGivenUp (n : ℕ) (x : Client) (c : Course) : Type 0 where
  pub not_here : client_here c.table n ≡ None
  pub all_closed : (y : Client) → slice_get c.table.clients n ≡ Some y → how_many is_open y.session.sessions ≡ 0
  pub no_peer_id : (i : ℕ) (y : Client) → slice_get c.table.clients i ≡ Some y → has_peer_id x.peer_id y ≡ false
  pub no_rows : AllByRecursion (λ (row : Row). row.1.0 ≢ n) c.table.routes.rows
  pub no_hosts : AllByRecursion (λ (host : Host). host.1.0 ≢ n) c.table.routes.learned
  pub no_datagrams : AllByRecursion (λ (s : Staged). s.number ≢ n) c.staged
