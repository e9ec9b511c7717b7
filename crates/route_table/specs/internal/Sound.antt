-- What holds of every table.
use Rattle.std.specs.Prelude.{◌≡◌, ◌≤◌, true, List, length}
use Rattle.std.specs.List.{All}
use Rattle.route_table.specs.Owner.{Row, owner, is_owned_by}
use Rattle.route_table.specs.Learned.{Host, most_hosts}

-- each learned host is owned by the client that it was learned from, and there are not too many
pub record IsSound (rows : List Row) (hosts : List Host) : Type 0 where
  pub owned : All (λ host. is_owned_by host.1 (owner rows host.0) ≡ true) hosts
  pub few : length hosts ≤ most_hosts
