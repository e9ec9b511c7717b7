-- One event of a run, and a run that goes on.
use Rattle.std.specs.Prelude.{◌≡◌, ℕ, ◌+◌, ◌<◌, Bool, true, false, List, [], ◌∷◌, ◌++◌, length, take, slice_get, Option, Some, None, IsTrue}
use Rattle.vpn_base.specs.declared.errors.Or.{Or}
use Rattle.vpn_base.specs.declared.errors.Or.TheVariants.{Memory, Why}
use Rattle.vpn_links.specs.Actions.{Action, Contents, is_wire, stops}
use Rattle.vpn_links.specs.Faults.{Asking, Giving, LinkCall}
use Rattle.vpn_links.specs.Rounds.{Given, Round, gave}
use Rattle.vpn_links.specs.Steps.{Lack}
use Rattle.vpn_links.specs.declared.events.Event.{Event}
use Rattle.vpn_links.specs.declared.links.LinkFault.{LinkFault}
use Rattle.vpn_links.specs.declared.links.LinkFault.TheVariants as faults
use Rattle.vpn_node.specs.declared.outcome.Outcome.{Outcome}
use Rattle.vpn_node.specs.declared.outcome.Outcome.TheVariants as outcomes
use Rattle.vpn_node.specs.declared.run.Tally.{Tally}
use Rattle.vpn_node.specs.Running.{Caused, Entry, MayLack, MayRun, OnlyWireLost, OnlyWiresLost, actions_of, after, after_all, after_lacking, came_in, capped, events_of, given_in, goes_on, lost_by, lost_of, one_if, outs_at, outs_lacking, refused_by, refused_lacking, run}

-- what breaks a run off where an effect is given: want of memory, or a fault that was counted, is not of the line, and may be then
abbrev pub IsBreak : (LinkCall → LinkFault → Type 0) → Outcome → (LinkFault → ℕ) → (LinkFault → ℕ) → Type 0
IsBreak may outcomes.Stopped before now = ⊥
IsBreak may outcomes.TurnsSpent before now = ⊥
IsBreak may outcomes.Memory before now = Unit {0}
IsBreak may (outcomes.Fault fault) before now = Caused (outcomes.Fault fault) before now × may Giving fault

-- the outcome of a call that failed
abbrev pub break_of : Or LinkFault → Outcome
break_of Memory = outcomes.Memory
break_of (Why fault) = outcomes.Fault fault

-- the outcome of an event that was taken whole, if the run ends there
abbrev pub end_of : Bool → Option Outcome
end_of true = Some outcomes.Stopped
end_of false = None

-- an effect was given, or lost on the line
pub record GaveAlso (may_fail : LinkCall → LinkFault → Type 0) (action : Action) (Told_before Told : List Round → Type 0) (lost_before lost : ℕ) : Type 0 where
  pub is_lost : Bool
  pub wire : IsTrue is_lost → IsTrue (is_wire action) × may_fail Giving faults.Wire
  pub told : (rounds : List Round) → Told_before rounds → Told (gave rounds (record { action = action; is_lost = is_lost }))
  pub counted : lost ≡ capped (lost_before + one_if is_lost)

-- an effect was not given
pub record GaveNone (Told_before Told : List Round → Type 0) (lost_before lost : ℕ) : Type 0 where
  pub told : (rounds : List Round) → Told_before rounds → Told rounds
  pub counted : lost ≡ lost_before

-- what became of an effect, by the break that came
abbrev pub GaveOne : (LinkCall → LinkFault → Type 0) → Option Outcome → Action → (Option Action → List Round → Type 0) → (Option Action → List Round → Type 0) → ℕ → ℕ → Type 0
GaveOne may_fail None action Told_before Told lost_before lost = GaveAlso may_fail action (Told_before None) (Told None) lost_before lost
GaveOne may_fail (Some outcome) action Told_before Told lost_before lost = GaveNone (Told_before None) (Told (Some action)) lost_before lost

-- the first n effects of the last event were given
pub record GaveFirst (may_fail : LinkCall → LinkFault → Type 0) (n : ℕ) (actions : List Action) (Told_before Told : List Round → Type 0) (lost_before lost : ℕ) : Type 0 where
  pub given : List Given
  pub same : actions_of given ≡ take n actions
  pub wires : OnlyWireLost may_fail given
  pub told : (rounds : List Round) (event : Event) → Told_before (rounds ++ record { event = event; effects = [] } ∷ []) → Told (rounds ++ record { event = event; effects = given } ∷ [])
  pub counted : lost ≡ capped (lost_before + lost_of given)

-- all of its effects were given, or a break came before one of them
abbrev pub Gave : (LinkCall → LinkFault → Type 0) → Option Outcome → List Action → (Option Action → List Round → Type 0) → (Option Action → List Round → Type 0) → ℕ → ℕ → Type 0
Gave may_fail None actions Told_before Told lost_before lost = GaveFirst may_fail (length actions) actions (Told_before None) (Told None) lost_before lost
Gave may_fail (Some outcome) actions Told_before Told lost_before lost = (n : ℕ) × (n < length actions) × GaveFirst may_fail n actions (Told_before None) (Told (slice_get actions n)) lost_before lost

-- a core took an event, or it lacked memory for it, and the outbox holds what that does
pub record TookStep {T : Type 0} (next : Bool → T → Event → T) (effects : Bool → T → Event → List Action) (may_lack : T → Event → Lack → Type 0)
    (Stands : T → Type 0) (t : T) (event : Event) (out : Contents) (refused : ℕ) : Type 0 where
  pub lack : Lack
  pub may : MayLack may_lack t event lack
  pub stands : Stands (after_lacking next t event lack)
  pub holds : out.effects ≡ outs_lacking effects t event lack
  pub counted : refused ≡ refused_lacking effects t event lack

-- one event more was taken, and the first n of its effects were given
pub record TookTurn {T : Type 0} (may_fail : LinkCall → LinkFault → Type 0) (next : Bool → T → Event → T) (effects : Bool → T → Event → List Action) (may_lack : T → Event → Lack → Type 0)
    (Stands : T → Type 0) (Told_before Told : List Round → Type 0) (t : T) (before now : Tally) : Type 0 where
  pub entry : Entry
  pub given : List Given
  pub n : ℕ
  pub may : MayLack may_lack t entry.event entry.lack
  pub stands : Stands (after next t entry)
  pub told : (rounds : List Round) → Told_before rounds → Told (rounds ++ record { event = entry.event; effects = given } ∷ [])
  pub same : actions_of given ≡ take n (outs_at effects t entry)
  pub wires : OnlyWireLost may_fail given
  pub events : now.events ≡ before.events + 1
  pub lost : now.lost ≡ capped (before.lost + lost_of given)
  pub refused : now.refused ≡ capped (before.refused + refused_lacking effects t entry.event entry.lack)

-- no event was taken
pub record TookNone {T : Type 0} (Stands : T → Type 0) (Told_before Told : List Round → Type 0) (t : T) (before now : Tally) : Type 0 where
  pub stands : Stands t
  pub told : (rounds : List Round) → Told_before rounds → Told rounds
  pub same : now ≡ before

-- an event was taken whole, and it ends the program or not
pub record TookWhole {T : Type 0} (may_fail : LinkCall → LinkFault → Type 0) (next : Bool → T → Event → T) (effects : Bool → T → Event → List Action) (may_lack : T → Event → Lack → Type 0)
    (Stands : T → Type 0) (Told_before Told : List Round → Type 0) (t : T) (before now : Tally) (ends : Bool) : Type 0 where
  pub turn : TookTurn may_fail next effects may_lack Stands Told_before Told t before now
  pub whole : turn.n ≡ length (outs_at effects t turn.entry)
  pub stopping : stops (outs_at effects t turn.entry) ≡ ends

-- a run was broken off, each only where that may be: no event came, or not all of its effects were given, and of the next one nothing or a part was taken
pub data TookPart {T : Type 0} (may_fail : LinkCall → LinkFault → Type 0) (may_ask may_give : Type 0) (next : Bool → T → Event → T) (effects : Bool → T → Event → List Action) (may_lack : T → Event → Lack → Type 0)
    (Stands : T → Type 0) (Told_before Told : Option Action → List Round → Type 0) (t : T) (before now : Tally) : Type 0 where
  NoEvent : may_ask → TookNone Stands (Told_before None) (Told None) t before now → TookPart may_fail may_ask may_give next effects may_lack Stands Told_before Told t before now
  NotAll : may_give → (part : Option Action) → (turn : TookTurn may_fail next effects may_lack Stands (Told_before None) (Told part) t before now) → part ≡ slice_get (outs_at effects t turn.entry) turn.n →
      turn.n < length (outs_at effects t turn.entry) → TookPart may_fail may_ask may_give next effects may_lack Stands Told_before Told t before now

-- what a turn came to, by its answer
abbrev pub Turned : {T : Type 0} → (LinkCall → LinkFault → Type 0) → Option Outcome → (Bool → T → Event → T) → (Bool → T → Event → List Action) → (T → Event → Lack → Type 0) → (T → Type 0) → (Option Action → List Round → Type 0) → (Option Action → List Round → Type 0) → T → Tally → Tally → Type 0
Turned may_fail None next effects may_lack Stands Told_before Told t before now = TookWhole may_fail next effects may_lack Stands (Told_before None) (Told None) t before now false
Turned may_fail (Some outcomes.Stopped) next effects may_lack Stands Told_before Told t before now = TookWhole may_fail next effects may_lack Stands (Told_before None) (Told None) t before now true
Turned may_fail (Some outcomes.TurnsSpent) next effects may_lack Stands Told_before Told t before now = ⊥
Turned may_fail (Some (outcomes.Fault fault)) next effects may_lack Stands Told_before Told t before now = TookPart may_fail (may_fail Asking fault) (may_fail Giving fault) next effects may_lack Stands Told_before Told t before now
Turned may_fail (Some outcomes.Memory) next effects may_lack Stands Told_before Told t before now = TookPart may_fail (Unit {0}) (Unit {0}) next effects may_lack Stands Told_before Told t before now

-- the events of a run up to now, with the rounds that the outside got of them
pub record Course {T : Type 0} (may_fail : LinkCall → LinkFault → Type 0) (next : Bool → T → Event → T) (effects : Bool → T → Event → List Action) (may_lack : T → Event → Lack → Type 0)
    (Stands : T → Type 0) (Told_before Told : List Round → Type 0) (t : T) (now : Tally) : Type 0 where
  pub entries : List Entry
  pub rounds : List Round
  pub may : MayRun next may_lack t entries
  pub stands : Stands (after_all next t entries)
  pub told : (before : List Round) → Told_before before → Told (before ++ rounds)
  pub came : came_in rounds ≡ events_of entries
  pub wires : OnlyWiresLost may_fail rounds
  pub events : now.events ≡ length entries
  pub lost : now.lost ≡ capped (lost_by rounds)
  pub refused : now.refused ≡ capped (refused_by next effects t entries)

-- a run that goes on: each event was taken whole, and none ends the program
pub record Going {T : Type 0} (may_fail : LinkCall → LinkFault → Type 0) (next : Bool → T → Event → T) (effects : Bool → T → Event → List Action) (may_lack : T → Event → Lack → Type 0)
    (Stands : T → Type 0) (Told_before Told : List Round → Type 0) (t : T) (now : Tally) : Type 0 where
  pub course : Course may_fail next effects may_lack Stands Told_before Told t now
  pub whole : given_in course.rounds ≡ run next effects t course.entries
  pub onward : IsTrue (goes_on (run next effects t course.entries))
