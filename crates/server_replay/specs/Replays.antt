-- What a replay of the server comes to.
use Rattle.std.specs.Prelude.{◌≡◌, ℕ, ◌^◌, ◌⊎◌, Bool, true, false, List, [], ◌++◌, length, Option, Some}
use Rattle.vpn_base.specs.Answers.{Rose}
use Rattle.vpn_base.specs.Files.{Holding}
use Rattle.vpn_base.specs.Sink.{appended}
use Rattle.vpn_links.specs.Actions.{Action}
use Rattle.vpn_links.specs.declared.events.Event.{Event}
use Rattle.vpn_links.specs.declared.links.LinkFault.TheVariants as faults
use Rattle.vpn_node.specs.Running.{Ends, capped}
use Rattle.vpn_node.specs.declared.outcome.Outcome.{Outcome}
use Rattle.vpn_node.specs.declared.outcome.Outcome.TheVariants as outcomes
use Rattle.vpn_node.specs.declared.outcome.Ran.{Ran}
use Rattle.replay_links.specs.Fronts.{IsFrontOf}
use Rattle.replay_links.specs.Replay.{Caused, IsFront, IsRefused, MayFail}
use Rattle.replay_links.specs.Schedule.{spells}
use Rattle.replay_links.specs.declared.end.ReplayEnd.{ReplayEnd}
use Rattle.replay_links.specs.declared.end.ReplayEnd.TheVariants as ends
use Rattle.replay_links.specs.declared.reading.LineFault.{LineFault}
use Rattle.server_table.specs.Runs.{Entry, MayRun, run}
use Rattle.server_table.specs.Table.{Table}
use Rattle.server_replay.specs.Runs.{LackNothing, events_of, left_out_in}
use Rattle.server_replay.specs.Transcript.{transcript}

-- the most events of a run
abbrev pub most_turns : ℕ
most_turns = 2 ^ 48

-- these events are the first of those that a schedule spells, with these left and this fault behind them; none, where it was not read
abbrev pub AreSpelled : Holding → Bool → List ℕ → List Event → Option LineFault → List Event → Type 0
AreSpelled holding false text left fault events = events ≡ []
AreSpelled holding true text left fault events = IsFrontOf holding text × ((spells text).events ≡ events ++ left) × ((spells text).fault ≡ fault)

-- events came from a schedule, and why no further one came, if one was asked for in vain
pub record CameFrom (holding : Holding) (events : List Event) (ended : Option ReplayEnd) : Type 0 where
  pub is_read : Bool
  pub text : List ℕ
  pub left : List Event
  pub fault : Option LineFault
  pub spelled : AreSpelled holding is_read text left fault events
  pub cause : Caused holding is_read left fault ended

-- a replay over a schedule, and what the output held before and after it: one list of events, with what lacked at each, of which all that is told is what the run of the definitions does from this table on; all effects of that run, or those up to where it broke off, were given, and are the transcript; behind it there may stand a front of the next line, where the output cut it
pub record IsReplay (t : Table) (holding : Holding) (before now : Option (List ℕ)) (ended : Option ReplayEnd) (is_cut : Bool) (ran : Ran) : Type 0 where
  pub entries : List Entry
  pub given : List (List Action)
  pub part : Option Action
  pub front : List ℕ
  pub may : MayRun t entries
  pub schedule : CameFrom holding (events_of entries) ended
  pub outcome : Ends MayFail ran.outcome most_turns (run t entries) given part
  pub cut : IsFront is_cut (length entries) part front
  pub written : now ≡ appended before (transcript given ++ front)
  pub events : ran.events ≡ length entries
  pub lost : ran.lost ≡ 0
  pub refused : ran.refused ≡ capped (left_out_in t entries)
  pub whole : ran.refused ≡ 0 → LackNothing entries

-- what broke a replay off, by the counts of files and output before and after it: there is no schedule, or it could not be read; a line of it is refused; the output failed
abbrev pub BrokeBy : Outcome → Option ReplayEnd → ℕ × ℕ → ℕ × ℕ → Type 0
BrokeBy (outcomes.Fault faults.Input) ended files out = (ended ≡ Some ends.Missing) ⊎ Rose files.0 files.1
BrokeBy (outcomes.Fault faults.Output) ended files out = Rose out.0 out.1
BrokeBy (outcomes.Fault faults.Schedule) ended files out = IsRefused ended
BrokeBy (outcomes.Fault fault) ended files out = ⊥
BrokeBy outcome ended files out = Unit {0}
