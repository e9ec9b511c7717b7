-- What a run puts to the engine on each connection, and which connections it opens.
use Rattle.std.specs.Prelude.{ℕ, suc, ◌==◌, nat_lt, Bool, true, false, List, [], ◌∷◌, Option, Some, None}
use Rattle.std.specs.List.{flat_map}
use Rattle.vpn_links.specs.Actions.{Action, EngineOpen, EnginePut}
use Rattle.server_table.specs.Table.{Table}
use Rattle.server_table.specs.Runs.{Entry, run}

-- a text, where it is put on this connection
abbrev pub put_if : Bool → List ℕ → List ℕ
put_if true bytes = bytes
put_if false bytes = []

-- the control text that an effect puts to the engine on a connection
abbrev pub put_by : ℕ → Action → List ℕ
put_by conn (EnginePut on bytes) = put_if (on.0 == conn) bytes
put_by conn action = []

-- all control text that was put to the engine on a connection, in order
abbrev pub put_on : ℕ → List Action → List ℕ
put_on conn actions = flat_map (put_by conn) actions

-- a count, where something holds
abbrev pub only_if : Bool → Option ℕ → Option ℕ
only_if true count = count
only_if false count = None

-- How many connections are opened once these effects were done, where so many were before. None, where a connection is opened that is not
-- the next one, or text is put on one that was not opened before.
abbrev pub opened_after : List Action → ℕ → Option ℕ
opened_after [] count = Some count
opened_after (EngineOpen conn role ∷ actions) count = only_if (conn.0 == count) (opened_after actions (suc count))
opened_after (EnginePut conn bytes ∷ actions) count = only_if (nat_lt conn.0 count) (opened_after actions count)
opened_after (action ∷ actions) count = opened_after actions count

-- everything that a run does, in order
abbrev pub all_outs : Table → List Entry → List Action
all_outs t entries = flat_map (λ actions. actions) (run t entries)
