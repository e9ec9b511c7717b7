-- Whether a ping is due to a client that may be here.
use Rattle.std.specs.Prelude.{ℕ, Bool, false, Option, Some, None}
use Rattle.server_table.specs.Lookups.{client_here}
use Rattle.server_table.specs.Table.{Client, Table}
use Rattle.server_table.specs.Time.{ping_is_due}

-- whether one is, to a client where there is one
abbrev pub is_due_to : Table → Option Client → Bool
is_due_to t None = false
is_due_to t (Some x) = ping_is_due t.settings.keepalive t.moment x

-- the same for the client of a number
abbrev pub is_due : Table → ℕ → Bool
is_due t n = is_due_to t (client_here t n)
