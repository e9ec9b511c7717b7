-- What a client's turn leaves of all else.
use Rattle.std.specs.Prelude.{◌≡◌, ℕ, ◌+◌, ◌≤◌}
use Rattle.client_table.specs.Tables.{admitted_by, entries_of, most_of}
use Rattle.server_state.specs.declared.state.ServerCore.{ServerCore}
use Rattle.server_time.specs.Memory.{from_on}

-- what passing time never changes
pub record KeepsRest {S : Type 0} (before after : ServerCore S) : Type 0 where
  pub settings : after.settings ≡ before.settings
  pub moment : after.moment ≡ before.moment
  pub events : after.events ≡ before.events
  pub count_interval : after.count_interval ≡ before.count_interval
  pub held : after.held ≡ before.held
  pub is_stopped : after.is_stopped ≡ before.is_stopped

-- The clients behind the one of this number are as they were, and nobody came. At most so many connections more were opened.
pub record LeavesOthers {S : Type 0} (n more : ℕ) (before after : ServerCore S) : Type 0 where
  pub behind : from_on (n + 1) (entries_of after.clients) ≡ from_on (n + 1) (entries_of before.clients)
  pub admitted : admitted_by after.clients ≡ admitted_by before.clients
  pub most : most_of after.clients ≡ most_of before.clients
  pub opened : after.connections ≤ before.connections + more
  pub rest : KeepsRest before after
