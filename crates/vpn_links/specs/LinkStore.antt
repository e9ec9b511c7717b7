-- Links in memory, which tell everything and fail at the calls that they are told to.
use Rattle.std.specs.Prelude.{◌≡◌, ℕ, suc, ◌-◌, ◌==◌, ◌&&◌, Bool, true, false, List, [], ◌∷◌, ◌++◌, length, replicate, slice_get, slice_index, slice_set, Option, Some, None, unwrap_or, Result, Ok, Err, if◌then◌else◌}
use Rattle.std.specs.Option.{option_and_then}
use Rattle.vpn_base.specs.Memory.{counted}
use Rattle.vpn_base.specs.declared.errors.Or.{Or}
use Rattle.vpn_base.specs.declared.errors.Or.TheVariants.{Memory, Why}
use Rattle.vpn_base.specs.declared.names.Moment.{Moment}
use Rattle.vpn_links.specs.declared.events.Event.{Event}
use Rattle.vpn_links.specs.declared.events.Kind.TheVariants.{Halt}
use Rattle.vpn_links.specs.declared.links.LinkFault.{LinkFault}
use Rattle.vpn_links.specs.declared.links.LinkFault.TheVariants.{Wire, Engine, Device, Console, Random, Input, Output, Schedule}
use Rattle.vpn_links.specs.declared.links.Plan.{Plan}
use Rattle.vpn_links.specs.Actions.{Action}
use Rattle.vpn_links.specs.Rounds.{Given, Round}
use Rattle.vpn_links.specs.Starts.{Started, NotYet, With}

-- the events that are to come, the calls that are to fail and how, how many calls came, how often each part failed, the plan, and what was given after each event that came
pub record LinkStore : Type 0 where
  pub events : List Event
  pub failing : List (ℕ × LinkFault)
  pub calls : ℕ
  pub faults : List ℕ
  pub plan : Option Plan
  pub effects : List (List Given)

-- before the first call
abbrev pub store_begun : List Event → List (ℕ × LinkFault) → LinkStore
store_begun events failing = record { events = events; failing = failing; calls = 0; faults = replicate 8 0; plan = None; effects = [] }

-- ---- what came and what was given

-- the moment of an event, and 0 where there is none
abbrev pub moment_of : Option Event → Moment
moment_of None = record { 0 = 0 }
moment_of (Some e) = e.now

-- the moment of the last event
abbrev pub last_moment : List Event → Moment
last_moment events = moment_of (slice_get events (length events - 1))

-- what comes behind the last event: the end, at the same moment and with no random bytes
abbrev pub halt_after : List Event → Event
halt_after events = record { now = last_moment events; draw = record { 0 = replicate 120 0 }; kind = Halt }

-- the event of this number, from 0
abbrev pub event_at : List Event → ℕ → Event
event_at events n = unwrap_or (slice_get events n) (halt_after events)

-- the events from this number on, as many as effects are given of, each with its effects
abbrev pub rounds_from : List Event → ℕ → List (List Given) → List Round
rounds_from events n [] = []
rounds_from events n (given ∷ effects) = record { event = event_at events n; effects = given } ∷ rounds_from events (suc n) effects

-- the events that came, each with its effects
abbrev pub rounds_of : LinkStore → List Round
rounds_of s = rounds_from s.events 0 s.effects

-- an effect behind those of the last event
abbrev pub given_last : List (List Given) → Given → List (List Given)
given_last [] given = []
given_last (e ∷ []) given = (e ++ given ∷ []) ∷ []
given_last (e ∷ f ∷ effects) given = e ∷ given_last (f ∷ effects) given

-- the effect of this number behind the event of that number
abbrev pub effect_of : List (List Given) → ℕ → ℕ → Option Given
effect_of effects event i = option_and_then (λ given. slice_get given i) (slice_get effects event)

-- the plan that they were started with
abbrev pub started_of : Option Plan → Started
started_of None = NotYet
started_of (Some plan) = With plan

-- ---- faults

-- where a fault is counted
abbrev pub place_of : LinkFault → ℕ
place_of Wire = 0
place_of Engine = 1
place_of Device = 2
place_of Console = 3
place_of Random = 4
place_of Input = 5
place_of Output = 6
place_of Schedule = 7

-- how often it came
abbrev pub count_of : List ℕ → LinkFault → ℕ
count_of faults fault = slice_index faults (place_of fault)

-- the counts after one more
abbrev pub risen : List ℕ → LinkFault → List ℕ
risen faults fault = slice_set faults (place_of fault) (counted (count_of faults fault))

-- whether a call may answer a fault: Wire comes of the start and of datagrams alone
abbrev pub may_answer : Bool → LinkFault → Bool
may_answer of_line Wire = of_line
may_answer of_line fault = true

-- the fault of a call by its number: the first told for it that it may answer
abbrev pub fault_at : List (ℕ × LinkFault) → ℕ → Bool → Option LinkFault
fault_at [] call of_line = None
fault_at (f ∷ failing) call of_line = if (f.0 == call) && may_answer of_line f.1 then Some f.1 else fault_at failing call of_line

-- the fault of the next call
abbrev pub fault_of : LinkStore → Bool → Option LinkFault
fault_of s of_line = fault_at s.failing s.calls of_line

-- ---- calls

-- one call more, and its fault is counted
abbrev pub called : LinkStore → Option LinkFault → LinkStore
called s None = record s { calls = counted s.calls }
called s (Some fault) = record s { calls = counted s.calls; faults = risen s.faults fault }

-- after a start with a plan
abbrev pub after_start : LinkStore → Plan → Option LinkFault → LinkStore
after_start s plan None = record s { calls = counted s.calls; plan = Some plan }
after_start s plan (Some fault) = called s (Some fault)

-- after an event was asked for
abbrev pub after_next : LinkStore → Option LinkFault → LinkStore
after_next s None = record s { calls = counted s.calls; effects = s.effects ++ [] ∷ [] }
after_next s (Some fault) = called s (Some fault)

-- after an effect
abbrev pub after_effect : LinkStore → Action → Option LinkFault → LinkStore
after_effect s action None = record s { calls = counted s.calls; effects = given_last s.effects (record { action = action; is_lost = false }) }
after_effect s action (Some Wire) = record s { calls = counted s.calls; faults = risen s.faults Wire; effects = given_last s.effects (record { action = action; is_lost = true }) }
after_effect s action (Some fault) = called s (Some fault)

-- the call fails so or, where there is no fault, succeeds, unless memory ran out
abbrev pub FailsBy : {A : Type 0} → Option LinkFault → Result A (Or LinkFault) → Type 0
FailsBy fault (Ok x) = fault ≡ None
FailsBy fault (Err Memory) = Unit {0}
FailsBy fault (Err (Why k)) = fault ≡ Some k

-- want of memory leaves what was before
abbrev pub unless_memory : {A : Type 0} → Result A (Or LinkFault) → LinkStore → LinkStore → LinkStore
unless_memory (Err Memory) before after = before
unless_memory result before after = after
