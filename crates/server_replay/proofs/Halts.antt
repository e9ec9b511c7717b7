-- The end of a schedule ends its run: no further event comes behind it.
use Rattle.std.proofs.Common.{◌≡◌, ◌≢◌, ℕ, suc, ◌+◌, ◌^◌, ◌<◌, ◌≤◌, nat_le, Bool, true, false, not, List, [], ◌∷◌, ◌++◌, length, drop, refl, ap, sym, ◌∙◌, arith, Option, IsTrue}
use Rattle.std.specs.Prelude.{◌||◌, ◌&&◌}
use Rattle.std.specs.List.{list_any}
use Rattle.std.proofs.lemmas.Bool.{false≢true, lt-leb, true≢false}
use Rattle.vpn_links.specs.Actions.{Action, Stop, stops}
use Rattle.vpn_links.specs.Steps.{Lack, LacksAll, LacksHost, LacksNothing}
use Rattle.vpn_links.specs.declared.events.Event.{Event}
use Rattle.vpn_links.specs.declared.events.Kind.{Kind}
use Rattle.vpn_links.specs.declared.events.Kind.TheVariants.{Halt}
use Rattle.vpn_links.specs.declared.links.LinkFault.{LinkFault}
use Rattle.vpn_links.specs.Faults.{LinkCall}
use Rattle.vpn_node.specs.Running.{Between, BrokeOff, Ends, Within, goes_on, stops_last, stops_only_last}
use Rattle.vpn_node.specs.declared.outcome.Outcome.{Outcome}
use Rattle.vpn_node.specs.declared.outcome.Outcome.TheVariants as outcomes
use Rattle.server_table.specs.Courses.{outs}
use Rattle.server_table.specs.Runs.{Entry, MayLack, MayRun, after, is_free, is_free_kind, is_refusal, outs_at, run}
use Rattle.server_table.specs.Step.{is_over, step}
use Rattle.server_table.specs.Table.{Table}
use Rattle.server_replay.specs.Runs.{events_of}

-- ---- only the last event may end the program

and_parts : (a b : Bool) → (not a && b) ≡ true → (a ≡ false) × (b ≡ true)
and_parts false b is = (refl, is)
and_parts true b is = absurd (false≢true is)

or_parts : (a b : Bool) → not (a || b) ≡ true → (not a ≡ true) × (not b ≡ true)
or_parts true b is = absurd (false≢true is)
or_parts false b is = (refl, is)

and_both : (a b : Bool) → not a ≡ true → b ≡ true → (not a && b) ≡ true
and_both false b first rest = rest
and_both true b first rest = absurd (false≢true first)

last_only : (os : List (List Action)) → IsTrue (stops_last os) → IsTrue (stops_only_last os)
last_only [] is = refl
last_only (o ∷ []) is = refl
last_only (o ∷ p ∷ os) is =
    let parts = and_parts (stops o) (stops_last (p ∷ os)) is in
    and_both (stops o) (stops_only_last (p ∷ os)) (ap not parts.0) (last_only (p ∷ os) parts.1)

onward_only : (os : List (List Action)) → IsTrue (goes_on os) → IsTrue (stops_only_last os)
onward_only [] is = refl
onward_only (o ∷ []) is = refl
onward_only (o ∷ p ∷ os) is =
    let parts = or_parts (stops o) (list_any stops (p ∷ os)) is in
    and_both (stops o) (stops_only_last (p ∷ os)) parts.0 (onward_only (p ∷ os) parts.1)

broken_only : (may_ask may_give : Type 0) (turns : ℕ) (os given : List (List Action)) (part : Option Action) → BrokeOff may_ask may_give turns os given part →
    IsTrue (stops_only_last os) × (length os ≤ turns)
broken_only may_ask may_give turns os given part (Between may whole none onward fewer) = (onward_only os onward, omega (arith, fewer))
broken_only may_ask may_give turns os given part (Within may n first at within only most) = (only, most)

-- however a run ended
pub ended_only : (may_fail : LinkCall → LinkFault → Type 0) (outcome : Outcome) (turns : ℕ) (os given : List (List Action)) (part : Option Action) → Ends may_fail outcome turns os given part →
    IsTrue (stops_only_last os) × (length os ≤ turns)
ended_only may_fail outcomes.Stopped turns os given part is = (last_only os is.2, is.3)
ended_only may_fail outcomes.TurnsSpent turns os given part is = (onward_only os is.2, omega (arith, is.3))
ended_only may_fail (outcomes.Fault fault) turns os given part is = broken_only (may_fail _ fault) (may_fail _ fault) turns os given part is
ended_only may_fail outcomes.Memory turns os given part is = broken_only (Unit {0}) (Unit {0}) turns os given part is

pub run_length : (t : Table) (entries : List Entry) → length (run t entries) ≡ length entries
run_length t [] = refl
run_length t (entry ∷ entries) = ap suc (run_length (after t entry) entries)

-- a table whose server takes so many events yet
pub record TakesYet (t : Table) (n : ℕ) : Type 0 where
  pub is_on : t.is_stopped ≡ false
  pub room : t.events + n ≤ 2 ^ 48

-- one to which nothing has come takes all events of a run
pub takes_all : (may_fail : LinkCall → LinkFault → Type 0) (t : Table) (entries : List Entry) (outcome : Outcome) (given : List (List Action)) (part : Option Action) → t.is_stopped ≡ false → t.events ≡ 0 →
    Ends may_fail outcome (2 ^ 48) (run t entries) given part → TakesYet t (length entries)
takes_all may_fail t entries outcome given part is_on none ended =
    let most = (ended_only may_fail outcome (2 ^ 48) (run t entries) given part ended).1 in
    record { is_on = is_on; room = let count = run_length t entries in omega (arith, most, count, none) }

-- ---- the end ends it

-- the law of the server: its end is told, and it alone stops it; an event is counted at most once
pub record EndStops : Type 0 where
  pub told : (lacks : Bool) (t : Table) (event : Event) → is_over t ≡ false → event.kind ≡ Halt → outs (step lacks t event) ≡ Stop ∷ []
  pub only : (lacks : Bool) (t : Table) (event : Event) → is_over t ≡ false → (step lacks t event).table.is_stopped ≡ true → event.kind ≡ Halt
  pub counted : (lacks : Bool) (t : Table) (event : Event) → (step lacks t event).table.events ≤ t.events + 1

takes_one : (t : Table) (n : ℕ) → TakesYet t (suc n) → is_over t ≡ false
takes_one t n takes = let room = takes.room in rw (takes.is_on) (below (omega (arith, room)))
  where
    below : t.events < 2 ^ 48 → nat_le (2 ^ 48) t.events ≡ false
    below fewer = lt-leb (2 ^ 48) t.events fewer

free_end : (t : Table) (event : Event) → event.kind ≡ Halt → is_free t event ≡ true
unfolding is_free
free_end t event is = ap (λ (kind : Kind). is_over t || is_free_kind kind || is_refusal (outs (step false t event))) is ∙ or_true (is_over t) (is_refusal (outs (step false t event)))
  where
    or_true : (b c : Bool) → (b || true || c) ≡ true
    or_true true c = refl
    or_true false c = refl

module _ (law : EndStops) where
  stops_there : (t : Table) (event : Event) (lack : Lack) → is_over t ≡ false → event.kind ≡ Halt → MayLack t event lack → stops (outs_at t (event, lack)) ≡ true
  stops_there t event LacksNothing goes is may = ap stops (law.told false t event goes is)
  stops_there t event LacksAll goes is may = absurd (true≢false (sym (free_end t event is) ∙ may))
  stops_there t event LacksHost goes is may = ap stops (law.told true t event goes is)

  stepped_on : (lacks : Bool) (t : Table) (event : Event) (n : ℕ) → TakesYet t (suc n) → stops (outs (step lacks t event)) ≡ false → TakesYet (step lacks t event).table n
  stepped_on lacks t event n takes none = record {
    is_on = by (step lacks t event).table.is_stopped refl;
    room = let counted = law.counted lacks t event in let room = takes.room in omega (arith, counted, room);
  }
    where
      by : (b : Bool) → (step lacks t event).table.is_stopped ≡ b → (step lacks t event).table.is_stopped ≡ false
      by false is = is
      by true is =
          let goes = takes_one t n takes in
          absurd (false≢true (sym none ∙ ap stops (law.told lacks t event goes (law.only lacks t event goes is))))

  -- an event that does not end it
  goes_after : (t : Table) (event : Event) (lack : Lack) (n : ℕ) → TakesYet t (suc n) → stops (outs_at t (event, lack)) ≡ false → TakesYet (after t (event, lack)) n
  goes_after t event LacksNothing n takes none = stepped_on false t event n takes none
  goes_after t event LacksAll n takes none = record { is_on = takes.is_on; room = let room = takes.room in omega (arith, room) }
  goes_after t event LacksHost n takes none = stepped_on true t event n takes none

  -- nothing comes behind the end
  pub ends_once : (t : Table) (entries : List Entry) (before : List Event) (last : Event) (more : List Event) → TakesYet t (length entries) → MayRun t entries →
      IsTrue (stops_only_last (run t entries)) → last.kind ≡ Halt → events_of entries ≡ before ++ last ∷ more → more ≡ []
  ends_once t [] [] last more takes may only halts are = absurd (none_first last more are)
    where
      none_first : (e : Event) (l : List Event) → [] ≡ e ∷ l → ⊥
      none_first e l is = let counts = ap length is in omega (arith, counts)
  ends_once t [] (e ∷ before) last more takes may only halts are = absurd (let counts = ap length are in omega (arith, counts))
  ends_once t (entry ∷ []) [] last more takes may only halts are = sym (ap (drop 1) are)
  ends_once t (entry ∷ next ∷ entries) [] last more takes may only halts are =
      let parts = and_parts (stops (outs_at t entry)) (stops_only_last (run (after t entry) (next ∷ entries))) only in
      let is : entry.0.kind ≡ Halt = ap (λ (e : Event). e.kind) (first_same entry.0 last (events_of (next ∷ entries)) more are) ∙ halts in
      absurd (false≢true (sym parts.0 ∙ stops_there t entry.0 entry.1 (takes_one t (length (next ∷ entries)) takes) is may.0))
    where
      first_same : (a b : Event) (l m : List Event) → a ∷ l ≡ b ∷ m → a ≡ b
      first_same a b l m is = cc
  ends_once t (entry ∷ []) (e ∷ before) last more takes may only halts are = absurd (too_many before (ap (drop 1) are))
    where
      too_many : (l : List Event) → [] ≡ l ++ last ∷ more → ⊥
      too_many [] is = let counts = ap length is in omega (arith, counts)
      too_many (x ∷ l) is = let counts = ap length is in omega (arith, counts)
  ends_once t (entry ∷ next ∷ entries) (e ∷ before) last more takes may only halts are =
      let parts = and_parts (stops (outs_at t entry)) (stops_only_last (run (after t entry) (next ∷ entries))) only in
      ends_once (after t entry) (next ∷ entries) before last more (goes_after t entry.0 entry.1 (length (next ∷ entries)) takes parts.0) may.1 parts.1 halts (ap (drop 1) are)
