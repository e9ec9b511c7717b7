-- What is told of a run of the server's definitions.
use Rattle.std.specs.Prelude.{◌≡◌, ℕ, ◌+◌, true, false, List, [], ◌∷◌, map}
use Rattle.vpn_links.specs.Steps.{Lack, LacksAll, LacksHost, LacksNothing}
use Rattle.vpn_links.specs.declared.events.Event.{Event}
use Rattle.vpn_node.specs.Running.{not_learned}
use Rattle.server_table.specs.Courses.{outs}
use Rattle.server_table.specs.Runs.{Entry, after}
use Rattle.server_table.specs.Step.{step}
use Rattle.server_table.specs.Table.{Table}

-- the events of a run
abbrev pub events_of : List Entry → List Event
events_of entries = map (λ entry. entry.0) entries

-- nothing lacks at any of them
abbrev pub LackNothing : List Entry → Type 0
LackNothing [] = Unit {0}
LackNothing (entry ∷ entries) = (entry.1 ≡ LacksNothing) × LackNothing entries

-- how much is left out at an event for want of memory: all of it, or the hosts that it reports as not learned
abbrev pub left_out : Table → Event → Lack → ℕ
left_out t event LacksNothing = not_learned (outs (step false t event))
left_out t event LacksAll = 1
left_out t event LacksHost = not_learned (outs (step true t event))

-- the same in a run
abbrev pub left_out_in : Table → List Entry → ℕ
left_out_in t [] = 0
left_out_in t (entry ∷ entries) = left_out t entry.0 entry.1 + left_out_in (after t entry) entries
