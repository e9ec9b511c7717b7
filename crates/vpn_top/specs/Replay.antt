-- What `replay` does: it runs a server over a schedule, and prints what it does.
use Rattle.std.specs.Prelude.{◌≡◌, ◌⊎◌, ℕ, ◌^◌, List, [], ◌∷◌, ◌++◌, codes, length, take, Option, Some, None, IsTrue}
use Rattle.std.specs.Fmt.{decimal}
use Rattle.vpn_base.specs.Answers.{Rose}
use Rattle.vpn_base.specs.Files.{Holding, Absent, IsMissing}
use Rattle.vpn_base.specs.Sink.{appended}
use Rattle.vpn_base.specs.declared.names.Role.TheVariants as roles
use Rattle.vpn_links.specs.Actions.{Action}
use Rattle.vpn_links.specs.declared.events.Event.{Event}
use Rattle.vpn_links.specs.declared.events.Kind.TheVariants.{Halt}
use Rattle.schedule_text.specs.declared.kind.TextKind.{TextKind}
use Rattle.replay_links.specs.Schedule.{EndWithHalt, spells}
use Rattle.tls_crypt.specs.declared.static_key.KeyFault.{KeyFault}
use Rattle.ovpn_config.specs.declared.settings.Settings.{Settings}
use Rattle.ovpn_config.specs.declared.settings.KeyPlace.TheVariants.{Named}
use Rattle.vpn_node.specs.Running.{goes_on, stops_last}
use Rattle.server_table.specs.Runs.{Entry, MayRun, run}
use Rattle.server_table.specs.Table.{table_begun}
use Rattle.server_promise.specs.Promise.{Promise}
use Rattle.server_replay.specs.Runs.{LackNothing, events_of}
use Rattle.server_replay.specs.Transcript.{transcript}
use Rattle.vpn_top.specs.declared.refusal.Refusal.{Refusal}
use Rattle.vpn_top.specs.declared.refusal.Refusal.TheVariants as refusals
use Rattle.vpn_top.specs.Configuration.{Configured, HasKey, Misconfigured, Miskeyed}
use Rattle.vpn_top.specs.Written.{IsWhole, Run}

-- ---- the schedule

-- these events are the first of those that the schedule in a file spells, with these left behind them
pub record AreFirstOf (holding : Holding) (events left : List Event) : Type 0 where
  pub text : List ℕ
  pub whole : IsWhole holding text
  pub all : (spells text).events ≡ events ++ left

-- the same; or there are none, where the schedule was not read
pub data CameOf (holding : Holding) (events : List Event) : Type 0 where
  NotRead : events ≡ [] → CameOf holding events
  First : (left : List Event) → AreFirstOf holding events left → CameOf holding events

-- these are all events that it spells, and behind them stands this line with its fault
pub record AreAllBefore (holding : Holding) (events : List Event) (line : ℕ) (kind : TextKind) : Type 0 where
  pub text : List ℕ
  pub whole : IsWhole holding text
  pub all : (spells text).events ≡ events
  pub fault : (spells text).fault ≡ Some (record { line = line; kind = kind })

-- one of these events is the end
pub record HoldHalt (events : List Event) : Type 0 where
  pub before : List Event
  pub halt : Event
  pub after : List Event
  pub all : events ≡ before ++ halt ∷ after
  pub halts : halt.kind ≡ Halt

-- ---- the run

-- A run of the server of a configuration with its static key, to which nothing has come, over events of a schedule, at each of which lacked what may. It keeps the promise.
pub record ServerRun (holds : List ℕ → Holding) (config schedule : List ℕ) : Type 0 where
  pub settings : Settings
  pub configured : Configured (holds config) settings
  pub is_server : settings.role ≡ roles.Server
  pub key : List ℕ
  pub keyed : HasKey holds settings.key key
  pub entries : List Entry
  pub may : MayRun (table_begun settings key) entries
  pub came : CameOf (holds schedule) (events_of entries)
  pub promise : Promise settings key entries

-- what it does at each event
abbrev pub outs_in : {holds : List ℕ → Holding} {config schedule : List ℕ} → ServerRun holds config schedule → List (List Action)
outs_in server = run (table_begun server.settings server.key) server.entries

-- ---- what is printed

-- the last line: how many events there were, and that no datagram was lost
abbrev pub done_line : ℕ → List ℕ
done_line events = codes "done " ++ decimal events ++ codes " lost 0" ++ 10 ∷ []

-- the run stopped at its last event, which is the end, and at none of which anything lacked; the lines of all that it did were written, and the last line
pub record Replayed (holds : List ℕ → Holding) (config schedule : List ℕ) (r : Run) : Type 0 where
  pub server : ServerRun holds config schedule
  pub stopped : IsTrue (stops_last (outs_in server))
  pub halted : EndWithHalt (events_of server.entries)
  pub nothing_lacks : LackNothing server.entries
  pub written : r.after ≡ appended r.before (transcript (outs_in server) ++ done_line (length server.entries))

-- all events before a refused line came, and none stopped the server; the lines of all that it did were written
pub record ReplayedBefore (holds : List ℕ → Holding) (config schedule : List ℕ) (line : ℕ) (kind : TextKind) (r : Run) : Type 0 where
  pub server : ServerRun holds config schedule
  pub came : AreAllBefore (holds schedule) (events_of server.entries) line kind
  pub not_stopped : IsTrue (goes_on (outs_in server))
  pub written : r.after ≡ appended r.before (transcript (outs_in server))

-- as many events came as may, and none stopped the server; the lines of all that it did were written
pub record ReplayedMost (holds : List ℕ → Holding) (config schedule : List ℕ) (r : Run) : Type 0 where
  pub server : ServerRun holds config schedule
  pub most : length server.entries ≡ 2 ^ 48
  pub not_stopped : IsTrue (goes_on (outs_in server))
  pub written : r.after ≡ appended r.before (transcript (outs_in server))

-- the run broke off somewhere, or was not told to its end: a front of all its lines was written
pub record ReplayedPart (holds : List ℕ → Holding) (config schedule : List ℕ) (r : Run) : Type 0 where
  pub server : ServerRun holds config schedule
  pub size : ℕ
  pub written : r.after ≡ appended r.before (take size (transcript (outs_in server) ++ done_line (length server.entries)))

-- nothing was written, or a front of all that a run does
abbrev pub ReplayedAtMost : (List ℕ → Holding) → List ℕ → List ℕ → Run → Type 0
ReplayedAtMost holds config schedule r = (r.after ≡ r.before) ⊎ ReplayedPart holds config schedule r

-- ---- what is refused

-- the configuration is a client's
pub record IsClient (holding : Holding) : Type 0 where
  pub settings : Settings
  pub configured : Configured holding settings
  pub is_client : settings.role ≡ roles.Client

-- the configuration is a server's, and the text of its static key has this fault
pub record IsBadServerKey (holding : Holding) (holds : List ℕ → Holding) (fault : KeyFault) : Type 0 where
  pub settings : Settings
  pub configured : Configured holding settings
  pub is_server : settings.role ≡ roles.Server
  pub miskeyed : Miskeyed holds settings.key fault

-- the file of this name is wanted for the static key of a server's configuration
pub record IsServerKeyFile (holding : Holding) (file : List ℕ) : Type 0 where
  pub settings : Settings
  pub configured : Configured holding settings
  pub is_server : settings.role ≡ roles.Server
  pub named : settings.key ≡ Named file

-- the file of this name is wanted before a run: it is that of the configuration, or that of its static key
abbrev pub IsWantedFirst : (List ℕ → Holding) → List ℕ → List ℕ → Type 0
IsWantedFirst holds config file = (file ≡ config) ⊎ IsServerKeyFile (holds config) file

-- the configuration is a server's, with this static key
pub record IsServer (holds : List ℕ → Holding) (config : List ℕ) : Type 0 where
  pub settings : Settings
  pub configured : Configured (holds config) settings
  pub is_server : settings.role ≡ roles.Server
  pub key : List ℕ
  pub keyed : HasKey holds settings.key key

-- ---- how it ends

-- It was done; or the configuration, its role or its static key is refused, a file is not there or could not be read, a line of the schedule is
-- refused, something could not be written, as many events came as may, or memory is short. The subject is the word of a faulty line, or the name
-- of a file. Where a run went on after an event that lacked memory, memory is short in place of a good end.
abbrev pub RanReplay : (List ℕ → Holding) → List ℕ → List ℕ → Option Refusal → List ℕ → Run → Type 0
RanReplay holds config schedule None subject r = Replayed holds config schedule r
RanReplay holds config schedule (Some refusals.Usage) subject r = ⊥
RanReplay holds config schedule (Some (refusals.Line fault)) subject r = ⊥
RanReplay holds config schedule (Some (refusals.Config line kind)) subject r =
    Misconfigured (holds config) (record { line = line; kind = kind; word = subject }) × (r.after ≡ r.before)
RanReplay holds config schedule (Some (refusals.Key fault)) subject r = IsBadServerKey (holds config) holds fault × (r.after ≡ r.before)
RanReplay holds config schedule (Some refusals.NotServer) subject r = IsClient (holds config) × (r.after ≡ r.before)
RanReplay holds config schedule (Some (refusals.Schedule line kind)) subject r = ReplayedBefore holds config schedule line kind r
RanReplay holds config schedule (Some refusals.TurnsSpent) subject r = ReplayedMost holds config schedule r
RanReplay holds config schedule (Some refusals.Missing) subject r =
    (IsWantedFirst holds config subject ⊎ ((subject ≡ schedule) × IsServer holds config)) × IsMissing (holds subject) × (r.after ≡ r.before)
RanReplay holds config schedule (Some refusals.Unreadable) subject r =
    Rose r.files.0 r.files.1
    × ((IsWantedFirst holds config subject × (¬ (holds subject ≡ Absent)) × (r.after ≡ r.before)) ⊎ ((subject ≡ schedule) × ReplayedPart holds config schedule r))
RanReplay holds config schedule (Some refusals.Output) subject r = (Rose r.out.0 r.out.1 ⊎ Rose r.err.0 r.err.1) × ReplayedAtMost holds config schedule r
RanReplay holds config schedule (Some refusals.NoMemory) subject r = ReplayedAtMost holds config schedule r
