-- A step of the server, as a machine makes it.
use Rattle.std.specs.Prelude.{Bool, List}
use Rattle.vpn_links.specs.Actions.{Action}
use Rattle.vpn_links.specs.declared.events.Event.{Event}
use Rattle.server_table.specs.Courses.{outs}
use Rattle.server_table.specs.Step.{step}
use Rattle.server_table.specs.Table.{Table}

-- the table after an event
abbrev pub next_table : Bool → Table → Event → Table
next_table lacks t event = (step lacks t event).table

-- what the event does to the outside
abbrev pub told_of : Bool → Table → Event → List Action
told_of lacks t event = outs (step lacks t event)
