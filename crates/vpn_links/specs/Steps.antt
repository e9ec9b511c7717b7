-- What a step of a core comes to.
use Rattle.std.specs.Prelude.{◌≡◌, Bool, true, List, [], ◌++◌}
use Rattle.vpn_links.specs.declared.events.Event.{Event}
use Rattle.vpn_links.specs.Actions.{Action, Contents, Holds}

-- what finds no memory at an event: nothing, the event as a whole, or the host that would be learned of it
pub data Lack : Type 0 where
  LacksNothing : Lack
  LacksAll : Lack
  LacksHost : Lack

-- a core took an event over a table: whether its host lacked, which it did only where it may; the core stands for the table after it, and its effects stand behind those that were there, with nothing staged
pub record Stepped {T : Type 0} (next : Bool → T → Event → T) (effects : Bool → T → Event → List Action) (may_lack : T → Event → Lack → Type 0) (Stands : T → Type 0) (t : T) (event : Event) (before : List Action) (out : Contents) : Type 0 where
  pub lacks : Bool
  pub may : lacks ≡ true → may_lack t event LacksHost
  pub stands : Stands (next lacks t event)
  pub told : Holds out (before ++ effects lacks t event) []
