-- The server over an outside.
use Rattle.std.specs.Prelude.{◌≡◌, ◌⊎◌, ℕ, List, ◌++◌, length, Option, None}
use Rattle.vpn_base.specs.Answers.{Rose}
use Rattle.vpn_links.specs.Actions.{Action}
use Rattle.vpn_links.specs.Faults.{Asking, LinkCall, Starting}
use Rattle.vpn_links.specs.Rounds.{Round}
use Rattle.vpn_links.specs.declared.links.LinkFault.{LinkFault}
use Rattle.vpn_node.specs.Running.{Ends, OnlyWiresLost, came_in, capped, given_in, lost_by}
use Rattle.vpn_node.specs.declared.outcome.Outcome.{Outcome}
use Rattle.vpn_node.specs.declared.outcome.Outcome.TheVariants as outcomes
use Rattle.vpn_node.specs.declared.outcome.Ran.{Ran}
use Rattle.server_table.specs.Runs.{Entry, MayRun, run}
use Rattle.server_table.specs.Table.{Table}
use Rattle.server_replay.specs.Replays.{most_turns}
use Rattle.server_replay.specs.Runs.{LackNothing, events_of, left_out_in}

-- the faults that come of an outside which is started and then run: a refused start ends the run before its first event
abbrev pub with_start : (LinkCall → LinkFault → Type 0) → LinkCall → LinkFault → Type 0
with_start may_fail Asking fault = may_fail Asking fault ⊎ may_fail Starting fault
with_start may_fail call fault = may_fail call fault

-- what a run came to from a table on, over an outside whose calls may answer these faults: its events with what lacked, the rounds that the
-- outside got beyond those that it had, and the effect of which it took only a part
pub record Served (may_fail : LinkCall → LinkFault → Type 0) (t : Table) (Told_before Told : Option Action → List Round → Type 0) (ran : Ran) : Type 0 where
  pub entries : List Entry
  pub rounds : List Round
  pub part : Option Action
  pub may : MayRun t entries
  pub told : (before : List Round) → Told_before None before → Told part (before ++ rounds)
  pub came : came_in rounds ≡ events_of entries
  pub wires : OnlyWiresLost may_fail rounds
  pub ended : Ends may_fail ran.outcome most_turns (run t entries) (given_in rounds) part
  pub events : ran.events ≡ length entries
  pub lost : ran.lost ≡ capped (lost_by rounds)
  pub refused : ran.refused ≡ capped (left_out_in t entries)
  pub whole : ran.refused ≡ 0 → LackNothing entries

-- a fault that ended a run, or refused its start, was counted
abbrev pub Counted : Outcome → (LinkFault → ℕ) → (LinkFault → ℕ) → Type 0
Counted (outcomes.Fault fault) before now = Rose (before fault) (now fault)
Counted _ before now = Unit {0}
