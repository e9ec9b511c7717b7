-- With which plan the outside was started.
use Rattle.vpn_links.specs.declared.links.Plan.{Plan}

-- what is told of it: nothing, that it was not started yet, or its plan
pub data Started : Type 0 where
  Untold : Started
  NotYet : Started
  With : Plan → Started

-- after a start with this plan, where it is told
abbrev pub started_with : Started → Plan → Started
started_with Untold plan = Untold
started_with NotYet plan = With plan
started_with (With before) plan = With plan
