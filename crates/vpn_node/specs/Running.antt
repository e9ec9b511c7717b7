-- A run of a core over its outside: events one after the other, of which some may find no memory, and what was given of their effects.
use Rattle.std.specs.Prelude.{◌≡◌, ℕ, ◌+◌, ◌-◌, ◌^◌, ◌<◌, ◌≤◌, ◌&&◌, min, Bool, true, false, not, List, [], ◌∷◌, ◌++◌, length, take, map, slice_get, Option, None, IsTrue}
use Rattle.std.specs.List.{list_any}
use Rattle.vpn_base.specs.Answers.{Rose}
use Rattle.vpn_links.specs.Actions.{Action, Report, is_wire, stops}
use Rattle.vpn_links.specs.Faults.{Asking, Giving, LinkCall}
use Rattle.vpn_links.specs.Rounds.{Given, Round}
use Rattle.vpn_links.specs.Steps.{Lack, LacksAll, LacksHost, LacksNothing}
use Rattle.vpn_links.specs.declared.events.Event.{Event}
use Rattle.vpn_links.specs.declared.links.LinkFault.{LinkFault}
use Rattle.vpn_links.specs.declared.links.LinkFault.TheVariants as faults
use Rattle.vpn_links.specs.declared.notes.Note.TheVariants as notes
use Rattle.vpn_node.specs.declared.outcome.Outcome.{Outcome}
use Rattle.vpn_node.specs.declared.outcome.Outcome.TheVariants as outcomes
use Rattle.vpn_node.specs.declared.outcome.Ran.{Ran}

-- an event, and what lacks at it
pub record Entry : Type 0 where
  pub event : Event
  pub lack : Lack

-- ---- what a core does at each event

-- the table after an event: one that lacks as a whole changes nothing
abbrev pub after_lacking : {T : Type 0} → (Bool → T → Event → T) → T → Event → Lack → T
after_lacking next t event LacksNothing = next false t event
after_lacking next t event LacksAll = t
after_lacking next t event LacksHost = next true t event

-- the same for an entry of a run
abbrev pub after : {T : Type 0} → (Bool → T → Event → T) → T → Entry → T
after next t entry = after_lacking next t entry.event entry.lack

-- what an event does: one that lacks as a whole is reported
abbrev pub outs_lacking : {T : Type 0} → (Bool → T → Event → List Action) → T → Event → Lack → List Action
outs_lacking effects t event LacksNothing = effects false t event
outs_lacking effects t event LacksAll = Report notes.NoMemory ∷ []
outs_lacking effects t event LacksHost = effects true t event

-- the same for an entry of a run
abbrev pub outs_at : {T : Type 0} → (Bool → T → Event → List Action) → T → Entry → List Action
outs_at effects t entry = outs_lacking effects t entry.event entry.lack

-- the table after these entries
abbrev pub after_all : {T : Type 0} → (Bool → T → Event → T) → T → List Entry → T
after_all next t [] = t
after_all next t (entry ∷ entries) = after_all next (after next t entry) entries

-- what each of these entries does
abbrev pub run : {T : Type 0} → (Bool → T → Event → T) → (Bool → T → Event → List Action) → T → List Entry → List (List Action)
run next effects t [] = []
run next effects t (entry ∷ entries) = outs_at effects t entry ∷ run next effects (after next t entry) entries

-- what lacks may: nothing always, anything else where the core says so
abbrev pub MayLack : {T : Type 0} → (T → Event → Lack → Type 0) → T → Event → Lack → Type 0
MayLack may_lack t event LacksNothing = Unit {0}
MayLack may_lack t event LacksAll = may_lack t event LacksAll
MayLack may_lack t event LacksHost = may_lack t event LacksHost

-- at each entry of a run lacks what may
abbrev pub MayRun : {T : Type 0} → (Bool → T → Event → T) → (T → Event → Lack → Type 0) → T → List Entry → Type 0
MayRun next may_lack t [] = Unit {0}
MayRun next may_lack t (entry ∷ entries) = MayLack may_lack t entry.event entry.lack × MayRun next may_lack (after next t entry) entries

-- ---- what is counted

-- the report that a host was not learned
abbrev pub is_not_learned : Action → Bool
is_not_learned (Report (notes.NotLearned id host)) = true
is_not_learned _ = false

-- one for what is so
abbrev pub one_if : Bool → ℕ
one_if true = 1
one_if false = 0

-- how many of these effects report that a host was not learned
abbrev pub not_learned : List Action → ℕ
not_learned [] = 0
not_learned (a ∷ actions) = one_if (is_not_learned a) + not_learned actions

-- what an event was refused for want of memory: it as a whole, or each host that was not learned
abbrev pub refused_lacking : {T : Type 0} → (Bool → T → Event → List Action) → T → Event → Lack → ℕ
refused_lacking effects t event LacksNothing = not_learned (effects false t event)
refused_lacking effects t event LacksAll = 1
refused_lacking effects t event LacksHost = not_learned (effects true t event)

-- the same for all of these entries
abbrev pub refused_by : {T : Type 0} → (Bool → T → Event → T) → (Bool → T → Event → List Action) → T → List Entry → ℕ
refused_by next effects t [] = 0
refused_by next effects t (entry ∷ entries) = refused_lacking effects t entry.event entry.lack + refused_by next effects (after next t entry) entries

-- how many effects were lost
abbrev pub lost_of : List Given → ℕ
lost_of [] = 0
lost_of (g ∷ given) = one_if g.is_lost + lost_of given

-- how many effects were lost in all
abbrev pub lost_by : List Round → ℕ
lost_by [] = 0
lost_by (r ∷ rounds) = lost_of r.effects + lost_by rounds

-- a count that stands still at 2^64 - 1
abbrev pub capped : ℕ → ℕ
capped n = min n (2 ^ 64 - 1)

-- ---- what was given

-- the events of a run
abbrev pub events_of : List Entry → List Event
events_of entries = map (λ entry. entry.event) entries

-- the events that came
abbrev pub came_in : List Round → List Event
came_in rounds = map (λ r. r.event) rounds

-- effects without whether they were lost
abbrev pub actions_of : List Given → List Action
actions_of given = map (λ g. g.action) given

-- the effects that were given after each event that came
abbrev pub given_in : List Round → List (List Action)
given_in rounds = map (λ r. actions_of r.effects) rounds

-- only datagrams were lost, and those only where the line may lose one
abbrev pub OnlyWireLost : (LinkCall → LinkFault → Type 0) → List Given → Type 0
OnlyWireLost may [] = Unit {0}
OnlyWireLost may (g ∷ given) = (IsTrue g.is_lost → IsTrue (is_wire g.action) × may Giving faults.Wire) × OnlyWireLost may given

-- the same of all rounds
abbrev pub OnlyWiresLost : (LinkCall → LinkFault → Type 0) → List Round → Type 0
OnlyWiresLost may [] = Unit {0}
OnlyWiresLost may (r ∷ rounds) = OnlyWireLost may r.effects × OnlyWiresLost may rounds

-- whether the effects of the last event end the program, and those of no event before
abbrev pub stops_last : List (List Action) → Bool
stops_last [] = false
stops_last (actions ∷ []) = stops actions
stops_last (actions ∷ more ∷ outs) = not (stops actions) && stops_last (more ∷ outs)

-- whether the effects of no event but the last may end the program
abbrev pub stops_only_last : List (List Action) → Bool
stops_only_last [] = true
stops_only_last (actions ∷ []) = true
stops_only_last (actions ∷ more ∷ outs) = not (stops actions) && stops_only_last (more ∷ outs)

-- whether no event ends the program
abbrev pub goes_on : List (List Action) → Bool
goes_on outs = not (list_any stops outs)

-- the effects of the last event
abbrev pub last_of : List (List Action) → List Action
last_of [] = []
last_of (actions ∷ []) = actions
last_of (actions ∷ more ∷ outs) = last_of (more ∷ outs)

-- of the last event only the first n effects
abbrev pub cut_last : ℕ → List (List Action) → List (List Action)
cut_last n [] = []
cut_last n (actions ∷ []) = take n actions ∷ []
cut_last n (actions ∷ more ∷ outs) = actions ∷ cut_last n (more ∷ outs)

-- a run that a fault or want of memory broke off, each only where that may be: in place of a further event; or of an effect of the last one, of which nothing or a part was taken
pub data BrokeOff (may_ask may_give : Type 0) (turns : ℕ) (outs given : List (List Action)) (part : Option Action) : Type 0 where
  Between : may_ask → given ≡ outs → part ≡ None → IsTrue (goes_on outs) → length outs < turns → BrokeOff may_ask may_give turns outs given part
  Within : may_give → (n : ℕ) → given ≡ cut_last n outs → part ≡ slice_get (last_of outs) n → n < length (last_of outs) → IsTrue (stops_only_last outs) → length outs ≤ turns →
      BrokeOff may_ask may_give turns outs given part

-- how a run of at most so many events ended, over an outside whose calls may answer these faults, by what its events do, what was given of it, and the effect of which only a part was taken
abbrev pub Ends : (LinkCall → LinkFault → Type 0) → Outcome → ℕ → List (List Action) → List (List Action) → Option Action → Type 0
Ends may outcomes.Stopped turns outs given part = (given ≡ outs) × (part ≡ None) × IsTrue (stops_last outs) × (length outs ≤ turns)
Ends may outcomes.TurnsSpent turns outs given part = (given ≡ outs) × (part ≡ None) × IsTrue (goes_on outs) × (length outs ≡ turns)
Ends may (outcomes.Fault fault) turns outs given part = BrokeOff (may Asking fault) (may Giving fault) turns outs given part
Ends may outcomes.Memory turns outs given part = BrokeOff (Unit {0}) (Unit {0}) turns outs given part

-- a fault that ended a run was counted, and is not of the line
abbrev pub Caused : Outcome → (LinkFault → ℕ) → (LinkFault → ℕ) → Type 0
Caused (outcomes.Fault fault) before now = (fault ≡ faults.Wire → ⊥) × Rose (before fault) (now fault)
Caused _ before now = Unit {0}

-- what a run came to, of a core that stood for a table, over an outside whose calls may answer these faults: its events with what lacked, the rounds that the outside got beyond those that it had, and the effect of which it took only a part
pub record RunOver {T : Type 0} (may_fail : LinkCall → LinkFault → Type 0) (next : Bool → T → Event → T) (effects : Bool → T → Event → List Action) (may_lack : T → Event → Lack → Type 0)
    (Stands : T → Type 0) (Told_before Told : Option Action → List Round → Type 0) (t : T) (turns : ℕ) (ran : Ran) : Type 0 where
  pub entries : List Entry
  pub rounds : List Round
  pub part : Option Action
  pub may : MayRun next may_lack t entries
  pub stands : Stands (after_all next t entries)
  pub told : (before : List Round) → Told_before None before → Told part (before ++ rounds)
  pub came : came_in rounds ≡ events_of entries
  pub wires : OnlyWiresLost may_fail rounds
  pub ended : Ends may_fail ran.outcome turns (run next effects t entries) (given_in rounds) part
  pub events : ran.events ≡ length entries
  pub lost : ran.lost ≡ capped (lost_by rounds)
  pub refused : ran.refused ≡ capped (refused_by next effects t entries)
