-- The packets that wait for the device, over a whole run.
use Rattle.std.specs.Prelude.{ℕ, List, [], ◌∷◌, ◌++◌, length, drop, filter_map, Option, Some, None}
use Rattle.vpn_links.specs.Actions.{Action, Device}
use Rattle.vpn_links.specs.declared.events.Kind.{Kind}
use Rattle.vpn_links.specs.declared.events.Kind.TheVariants.{Datagram}
use Rattle.server_table.specs.Table.{Table}
use Rattle.server_table.specs.Runs.{Entry, after, outs_at}

-- the packet that an effect gives to the device
abbrev pub given_by : Action → Option (List ℕ)
given_by (Device packet) = Some packet
given_by _ = None

-- those that effects give, in order
abbrev pub given : List Action → List (List ℕ)
given actions = filter_map given_by actions

-- the packets that an event appends to the queue: those that stand behind all that waited. No event but a datagram appends any.
abbrev pub appended : Table → Kind → Table → List (List ℕ)
appended t (Datagram from bytes) later = drop (length t.queue) later.queue
appended t kind later = []

-- all that were given to the device in a run, in order
abbrev pub all_given : Table → List Entry → List (List ℕ)
all_given t [] = []
all_given t (entry ∷ entries) = given (outs_at t entry) ++ all_given (after t entry) entries

-- all that were appended in a run, in order
abbrev pub all_appended : Table → List Entry → List (List ℕ)
all_appended t [] = []
all_appended t (entry ∷ entries) = appended t entry.0.kind (after t entry) ++ all_appended (after t entry) entries
