-- What a turn comes to, and a run.
use Rattle.std.proofs.Common.{◌≡◌, ℕ, ◌+◌, ◌<◌, Bool, true, false, List, [], ◌∷◌, ◌++◌, length, take, refl, ap, sym, ◌∙◌, subst, arith, take_all, slice_get, Option, Some, None, length-append}
use Rattle.std.proofs.lemmas.List.{map-append, append-nil}
use Rattle.std.proofs.Common.{append_assoc}
use Rattle.vpn_links.specs.Actions.{Action, Contents, stops}
use Rattle.vpn_links.specs.Faults.{Asking, Giving, LinkCall}
use Rattle.vpn_links.specs.Rounds.{Round, came}
use Rattle.vpn_links.specs.Steps.{Lack}
use Rattle.vpn_links.specs.declared.events.Event.{Event}
use Rattle.vpn_links.specs.declared.links.LinkFault.{LinkFault}
use Rattle.vpn_node.specs.declared.outcome.Outcome.{Outcome}
use Rattle.vpn_node.specs.declared.outcome.Outcome.TheVariants as outcomes
use Rattle.vpn_node.specs.declared.outcome.Ran.{Ran}
use Rattle.vpn_node.specs.declared.run.Tally.{Tally}
use Rattle.vpn_node.specs.Running.{BrokeOff, Between, Ends, Entry, RunOver, Within, actions_of, after_all, capped, cut_last, given_in, goes_on, last_of, lost_by, lost_of, outs_at, refused_by, refused_lacking, run, stops_last, stops_only_last}
use Rattle.vpn_node.specs.internal.Turns.{Gave, GaveFirst, Going, IsBreak, NoEvent, Course, NotAll, TookPart, TookStep, TookTurn, TookWhole, Turned, end_of}
use Rattle.vpn_node.proofs.Behind.{after_one, may_one, refused_one, run_length, run_one}
use Rattle.vpn_node.proofs.Lists.{capped_on, cut_behind, ends_last, ends_only_last, last_behind, lost_round, onward_one, wires_round}

-- ---- a turn

-- what came of an event whose first n effects were given
abbrev took : {T : Type 0} (may_fail : LinkCall → LinkFault → Type 0) (next : Bool → T → Event → T) (effects : Bool → T → Event → List Action) (may_lack : T → Event → Lack → Type 0)
    (Stands : T → Type 0) (Told_before Came Told : List Round → Type 0) (t : T) (event : Event) (out : Contents) (refused n : ℕ) (before now : Tally) →
    ((rounds : List Round) → Told_before rounds → Came (came rounds event)) →
    TookStep next effects may_lack Stands t event out refused → GaveFirst may_fail n out.effects Came Told before.lost now.lost →
    now.events ≡ before.events + 1 → now.refused ≡ capped (before.refused + refused) →
    TookTurn may_fail next effects may_lack Stands Told_before Told t before now
took may_fail next effects may_lack Stands Told_before Came Told t event out refused n before now comes step gave events counted = record {
  entry = record { event = event; lack = step.lack };
  given = gave.given;
  n = n;
  may = step.may;
  stands = step.stands;
  told = λ rounds told. gave.told rounds event (comes rounds told);
  same = gave.same ∙ ap (take n) step.holds;
  wires = gave.wires;
  events = events;
  lost = gave.counted;
  refused = counted ∙ ap (λ r. capped (before.refused + r)) step.counted;
}

-- a break came before one of its effects
pub turn_broken : {T : Type 0} (may_fail : LinkCall → LinkFault → Type 0) (next : Bool → T → Event → T) (effects : Bool → T → Event → List Action) (may_lack : T → Event → Lack → Type 0)
    (Stands : T → Type 0) (Told_before Came Told : Option Action → List Round → Type 0) (t : T) (event : Event) (out : Contents) (refused : ℕ) (before now : Tally) (faults_before faults_now : LinkFault → ℕ) (outcome : Outcome) →
    ((rounds : List Round) → Told_before None rounds → Came None (came rounds event)) →
    TookStep next effects may_lack Stands t event out refused → Gave may_fail (Some outcome) out.effects Came Told before.lost now.lost →
    now.events ≡ before.events + 1 → now.refused ≡ capped (before.refused + refused) → IsBreak may_fail outcome faults_before faults_now →
    Turned may_fail (Some outcome) next effects may_lack Stands Told_before Told t before now
turn_broken may_fail next effects may_lack Stands Told_before Came Told t event out refused before now faults_before faults_now outcomes.Stopped comes step gave events counted never = absurd never
turn_broken may_fail next effects may_lack Stands Told_before Came Told t event out refused before now faults_before faults_now outcomes.TurnsSpent comes step gave events counted never = absurd never
turn_broken may_fail next effects may_lack Stands Told_before Came Told t event out refused before now faults_before faults_now (outcomes.Fault fault) comes step gave events counted is =
    NotAll is.1 (slice_get out.effects gave.0) (took may_fail next effects may_lack Stands (Told_before None) (Came None) (Told (slice_get out.effects gave.0)) t event out refused gave.0 before now comes step gave.2 events counted)
    (ap (λ l. slice_get l gave.0) step.holds) (subst (λ l. gave.0 < length l) step.holds gave.1)
turn_broken may_fail next effects may_lack Stands Told_before Came Told t event out refused before now faults_before faults_now outcomes.Memory comes step gave events counted is =
    NotAll tt (slice_get out.effects gave.0) (took may_fail next effects may_lack Stands (Told_before None) (Came None) (Told (slice_get out.effects gave.0)) t event out refused gave.0 before now comes step gave.2 events counted)
    (ap (λ l. slice_get l gave.0) step.holds) (subst (λ l. gave.0 < length l) step.holds gave.1)

whole_of : {T : Type 0} (may_fail : LinkCall → LinkFault → Type 0) (next : Bool → T → Event → T) (effects : Bool → T → Event → List Action) (may_lack : T → Event → Lack → Type 0)
    (Stands : T → Type 0) (Told_before Came Told : List Round → Type 0) (t : T) (event : Event) (out : Contents) (refused : ℕ) (before now : Tally) (stopping : Bool) →
    ((rounds : List Round) → Told_before rounds → Came (came rounds event)) →
    TookStep next effects may_lack Stands t event out refused → GaveFirst may_fail (length out.effects) out.effects Came Told before.lost now.lost →
    now.events ≡ before.events + 1 → now.refused ≡ capped (before.refused + refused) → stopping ≡ stops out.effects →
    TookWhole may_fail next effects may_lack Stands Told_before Told t before now stopping
whole_of may_fail next effects may_lack Stands Told_before Came Told t event out refused before now stopping comes step gave events counted is = record {
  turn = took may_fail next effects may_lack Stands Told_before Came Told t event out refused (length out.effects) before now comes step gave events counted;
  whole = ap length step.holds;
  stopping = sym (is ∙ ap stops step.holds);
}

-- all of its effects were given
pub turn_whole : {T : Type 0} (may_fail : LinkCall → LinkFault → Type 0) (next : Bool → T → Event → T) (effects : Bool → T → Event → List Action) (may_lack : T → Event → Lack → Type 0)
    (Stands : T → Type 0) (Told_before Came Told : Option Action → List Round → Type 0) (t : T) (event : Event) (out : Contents) (refused : ℕ) (before now : Tally) (stopping : Bool) →
    ((rounds : List Round) → Told_before None rounds → Came None (came rounds event)) →
    TookStep next effects may_lack Stands t event out refused → GaveFirst may_fail (length out.effects) out.effects (Came None) (Told None) before.lost now.lost →
    now.events ≡ before.events + 1 → now.refused ≡ capped (before.refused + refused) → stopping ≡ stops out.effects →
    Turned may_fail (end_of stopping) next effects may_lack Stands Told_before Told t before now
turn_whole may_fail next effects may_lack Stands Told_before Came Told t event out refused before now true comes step gave events counted is =
    whole_of may_fail next effects may_lack Stands (Told_before None) (Came None) (Told None) t event out refused before now true comes step gave events counted is
turn_whole may_fail next effects may_lack Stands Told_before Came Told t event out refused before now false comes step gave events counted is =
    whole_of may_fail next effects may_lack Stands (Told_before None) (Came None) (Told None) t event out refused before now false comes step gave events counted is

-- ---- a run

-- nothing was taken yet
pub course_begun : {T : Type 0} (may_fail : LinkCall → LinkFault → Type 0) (next : Bool → T → Event → T) (effects : Bool → T → Event → List Action) (may_lack : T → Event → Lack → Type 0)
    (Stands : T → Type 0) (Told : List Round → Type 0) (t : T) → Stands t →
    Going may_fail next effects may_lack Stands Told Told t (record { events = 0; lost = 0; refused = 0 })
course_begun may_fail next effects may_lack Stands Told t stands = record {
  course = record {
    entries = [];
    rounds = [];
    may = tt;
    stands = stands;
    told = λ before told. subst Told (sym (append-nil before)) told;
    came = refl;
    wires = tt;
    events = refl;
    lost = omega arith;
    refused = omega arith;
  };
  whole = refl;
  onward = refl;
}

-- one event more
abbrev longer : {T : Type 0} (may_fail : LinkCall → LinkFault → Type 0) (next : Bool → T → Event → T) (effects : Bool → T → Event → List Action) (may_lack : T → Event → Lack → Type 0)
    (Stands_before Stands : T → Type 0) (Begun Before Told : List Round → Type 0) (t : T) (before now : Tally) →
    (c : Course may_fail next effects may_lack Stands_before Begun Before t before) →
    TookTurn may_fail next effects may_lack Stands Before Told (after_all next t c.entries) before now →
    Course may_fail next effects may_lack Stands Begun Told t now
longer may_fail next effects may_lack Stands_before Stands Begun Before Told t before now c k =
    let r : Round = record { event = k.entry.event; effects = k.given } in
    record {
      entries = c.entries ++ k.entry ∷ [];
      rounds = c.rounds ++ r ∷ [];
      may = may_one next may_lack t c.entries k.entry c.may k.may;
      stands = subst Stands (sym (after_one next t c.entries k.entry)) k.stands;
      told = λ rounds told. subst Told (append_assoc rounds c.rounds (r ∷ [])) (k.told (rounds ++ c.rounds) (c.told rounds told));
      came = map-append (λ (x : Round). x.event) c.rounds (r ∷ []) ∙ (ap (λ l. l ++ k.entry.event ∷ []) c.came ∙ sym (map-append (λ (x : Entry). x.event) c.entries (k.entry ∷ [])));
      wires = wires_round may_fail c.rounds r c.wires k.wires;
      events = omega (arith, k.events, c.events, length-append c.entries (k.entry ∷ []));
      lost = k.lost ∙ (capped_on (lost_by c.rounds) (lost_of k.given) before.lost c.lost ∙ ap capped (sym (lost_round c.rounds r)));
      refused = k.refused ∙ (capped_on (refused_by next effects t c.entries) (refused_lacking effects (after_all next t c.entries) k.entry.event k.entry.lack) before.refused c.refused
          ∙ ap capped (sym (refused_one next effects t c.entries k.entry)));
    }

-- what was given with it
given_longer : {T : Type 0} (may_fail : LinkCall → LinkFault → Type 0) (next : Bool → T → Event → T) (effects : Bool → T → Event → List Action) (may_lack : T → Event → Lack → Type 0)
    (Stands_before Stands : T → Type 0) (Begun Before Told : List Round → Type 0) (t : T) (before now : Tally) →
    (g : Going may_fail next effects may_lack Stands_before Begun Before t before) →
    (k : TookTurn may_fail next effects may_lack Stands Before Told (after_all next t g.course.entries) before now) →
    given_in (g.course.rounds ++ record { event = k.entry.event; effects = k.given } ∷ []) ≡ run next effects t g.course.entries ++ take k.n (outs_at effects (after_all next t g.course.entries) k.entry) ∷ []
given_longer may_fail next effects may_lack Stands_before Stands Begun Before Told t before now g k =
    map-append (λ (x : Round). actions_of x.effects) g.course.rounds (record { event = k.entry.event; effects = k.given } ∷ [])
    ∙ (ap (λ l. l ++ actions_of k.given ∷ []) g.whole ∙ ap (λ l. run next effects t g.course.entries ++ l ∷ []) k.same)

-- what was given with it, where it was taken whole
given_whole : {T : Type 0} (may_fail : LinkCall → LinkFault → Type 0) (next : Bool → T → Event → T) (effects : Bool → T → Event → List Action) (may_lack : T → Event → Lack → Type 0)
    (Stands_before Stands : T → Type 0) (Begun Before Told : List Round → Type 0) (t : T) (before now : Tally) (ends : Bool) →
    (g : Going may_fail next effects may_lack Stands_before Begun Before t before) →
    (k : TookWhole may_fail next effects may_lack Stands Before Told (after_all next t g.course.entries) before now ends) →
    given_in (g.course.rounds ++ record { event = k.turn.entry.event; effects = k.turn.given } ∷ []) ≡ run next effects t (g.course.entries ++ k.turn.entry ∷ [])
given_whole may_fail next effects may_lack Stands_before Stands Begun Before Told t before now ends g k =
    let o = outs_at effects (after_all next t g.course.entries) k.turn.entry in
    given_longer may_fail next effects may_lack Stands_before Stands Begun Before Told t before now g k.turn
    ∙ (ap (λ l. run next effects t g.course.entries ++ l ∷ []) (take_all k.turn.n o (omega (arith, k.whole)))
    ∙ sym (run_one next effects t g.course.entries k.turn.entry))

-- the run goes on
pub course_on : {T : Type 0} (may_fail : LinkCall → LinkFault → Type 0) (next : Bool → T → Event → T) (effects : Bool → T → Event → List Action) (may_lack : T → Event → Lack → Type 0)
    (Stands_before Stands : T → Type 0) (Begun Before Told : List Round → Type 0) (t : T) (before now : Tally) →
    (g : Going may_fail next effects may_lack Stands_before Begun Before t before) →
    TookWhole may_fail next effects may_lack Stands Before Told (after_all next t g.course.entries) before now false →
    Going may_fail next effects may_lack Stands Begun Told t now
course_on may_fail next effects may_lack Stands_before Stands Begun Before Told t before now g k = record {
  course = longer may_fail next effects may_lack Stands_before Stands Begun Before Told t before now g.course k.turn;
  whole = given_whole may_fail next effects may_lack Stands_before Stands Begun Before Told t before now false g k;
  onward = ap goes_on (run_one next effects t g.course.entries k.turn.entry)
      ∙ onward_one (run next effects t g.course.entries) (outs_at effects (after_all next t g.course.entries) k.turn.entry) g.onward k.stopping;
}

-- a run has ended
run_over : {T : Type 0} (may_fail : LinkCall → LinkFault → Type 0) (next : Bool → T → Event → T) (effects : Bool → T → Event → List Action) (may_lack : T → Event → Lack → Type 0)
    (Stands : T → Type 0) (Begun Told : Option Action → List Round → Type 0) (t : T) (turns : ℕ) (now : Tally) (outcome : Outcome) (part : Option Action) (ran : Ran) →
    ran ≡ record { outcome = outcome; events = now.events; lost = now.lost; refused = now.refused } →
    (c : Course may_fail next effects may_lack Stands (Begun None) (Told part) t now) → Ends may_fail outcome turns (run next effects t c.entries) (given_in c.rounds) part →
    RunOver may_fail next effects may_lack Stands Begun Told t turns ran
run_over may_fail next effects may_lack Stands Begun Told t turns now outcome part ran is c ended = record {
  entries = c.entries;
  rounds = c.rounds;
  part = part;
  may = c.may;
  stands = c.stands;
  told = c.told;
  came = c.came;
  wires = c.wires;
  ended = subst (λ (r : Ran). Ends may_fail r.outcome turns (run next effects t c.entries) (given_in c.rounds) part) (sym is) ended;
  events = ap (λ (r : Ran). r.events) is ∙ c.events;
  lost = ap (λ (r : Ran). r.lost) is ∙ c.lost;
  refused = ap (λ (r : Ran). r.refused) is ∙ c.refused;
}

-- as many events were taken as there may be
pub turns_spent : {T : Type 0} (may_fail : LinkCall → LinkFault → Type 0) (next : Bool → T → Event → T) (effects : Bool → T → Event → List Action) (may_lack : T → Event → Lack → Type 0)
    (Stands : T → Type 0) (Begun Told : Option Action → List Round → Type 0) (t : T) (turns : ℕ) (now : Tally) (ran : Ran) →
    ran ≡ record { outcome = outcomes.TurnsSpent; events = now.events; lost = now.lost; refused = now.refused } →
    now.events ≡ turns → Going may_fail next effects may_lack Stands (Begun None) (Told None) t now →
    RunOver may_fail next effects may_lack Stands Begun Told t turns ran
turns_spent may_fail next effects may_lack Stands Begun Told t turns now ran is spent g =
    run_over may_fail next effects may_lack Stands Begun Told t turns now outcomes.TurnsSpent None ran is g.course
    (g.whole, refl, g.onward, omega (arith, run_length next effects t g.course.entries, g.course.events, spent))

broken : {T : Type 0} (may_fail : LinkCall → LinkFault → Type 0) (may_ask may_give : Type 0) (next : Bool → T → Event → T) (effects : Bool → T → Event → List Action) (may_lack : T → Event → Lack → Type 0)
    (Stands_before Stands : T → Type 0) (Begun Before Told : Option Action → List Round → Type 0) (t : T) (turns : ℕ) (before now : Tally) (outcome : Outcome) (ran : Ran) →
    ran ≡ record { outcome = outcome; events = now.events; lost = now.lost; refused = now.refused } → before.events < turns →
    ((outs given : List (List Action)) (part : Option Action) → BrokeOff may_ask may_give turns outs given part → Ends may_fail outcome turns outs given part) →
    (g : Going may_fail next effects may_lack Stands_before (Begun None) (Before None) t before) →
    TookPart may_fail may_ask may_give next effects may_lack Stands Before Told (after_all next t g.course.entries) before now →
    RunOver may_fail next effects may_lack Stands Begun Told t turns ran
broken may_fail may_ask may_give next effects may_lack Stands_before Stands Begun Before Told t turns before now outcome ran is within ends g (NoEvent may none) =
    let c = g.course in
    let tally = none.same in
    run_over may_fail next effects may_lack Stands Begun Told t turns now outcome None ran is
    (record {
      entries = c.entries;
      rounds = c.rounds;
      may = c.may;
      stands = none.stands;
      told = λ rounds told. none.told (rounds ++ c.rounds) (c.told rounds told);
      came = c.came;
      wires = c.wires;
      events = ap (λ (k : Tally). k.events) tally ∙ c.events;
      lost = ap (λ (k : Tally). k.lost) tally ∙ c.lost;
      refused = ap (λ (k : Tally). k.refused) tally ∙ c.refused;
    })
    (ends (run next effects t c.entries) (given_in c.rounds) None (Between may g.whole refl g.onward (omega (arith, run_length next effects t c.entries, c.events, within))))
broken may_fail may_ask may_give next effects may_lack Stands_before Stands Begun Before Told t turns before now outcome ran is within ends g (NotAll may part k at fewer) =
    let c = g.course in
    let outs = run next effects t c.entries in
    let o = outs_at effects (after_all next t c.entries) k.entry in
    let one = run_one next effects t c.entries k.entry in
    run_over may_fail next effects may_lack Stands Begun Told t turns now outcome part ran is
    (longer may_fail next effects may_lack Stands_before Stands (Begun None) (Before None) (Told part) t before now c k)
    (ends (run next effects t (c.entries ++ k.entry ∷ [])) (given_in (c.rounds ++ record { event = k.entry.event; effects = k.given } ∷ [])) part
    (Within may k.n
    (given_longer may_fail next effects may_lack Stands_before Stands (Begun None) (Before None) (Told part) t before now g k ∙ (sym (cut_behind k.n outs o) ∙ ap (cut_last k.n) (sym one)))
    (at ∙ ap (λ l. slice_get l k.n) (sym (last_behind outs o) ∙ ap last_of (sym one)))
    (subst (λ l. k.n < length l) (sym (last_behind outs o) ∙ ap last_of (sym one)) fewer)
    (ap stops_only_last one ∙ ends_only_last outs o g.onward)
    (omega (arith, ap length one, length-append outs (o ∷ []), run_length next effects t c.entries, c.events, within))))

-- a turn ended the run
pub run_ended : {T : Type 0} (may_fail : LinkCall → LinkFault → Type 0) (next : Bool → T → Event → T) (effects : Bool → T → Event → List Action) (may_lack : T → Event → Lack → Type 0)
    (Stands_before Stands : T → Type 0) (Begun Before Told : Option Action → List Round → Type 0) (t : T) (turns : ℕ) (before now : Tally) (outcome : Outcome) (ran : Ran) →
    ran ≡ record { outcome = outcome; events = now.events; lost = now.lost; refused = now.refused } → before.events < turns →
    (g : Going may_fail next effects may_lack Stands_before (Begun None) (Before None) t before) →
    Turned may_fail (Some outcome) next effects may_lack Stands Before Told (after_all next t g.course.entries) before now →
    RunOver may_fail next effects may_lack Stands Begun Told t turns ran
run_ended may_fail next effects may_lack Stands_before Stands Begun Before Told t turns before now outcomes.Stopped ran is within g k =
    let outs = run next effects t g.course.entries in
    let o = outs_at effects (after_all next t g.course.entries) k.turn.entry in
    let one = run_one next effects t g.course.entries k.turn.entry in
    run_over may_fail next effects may_lack Stands Begun Told t turns now outcomes.Stopped None ran is
    (longer may_fail next effects may_lack Stands_before Stands (Begun None) (Before None) (Told None) t before now g.course k.turn) (
      given_whole may_fail next effects may_lack Stands_before Stands (Begun None) (Before None) (Told None) t before now true g k,
      refl,
      ap stops_last one ∙ ends_last outs o g.onward k.stopping,
      omega (arith, ap length one, length-append outs (o ∷ []), run_length next effects t g.course.entries, g.course.events, within),
    )
run_ended may_fail next effects may_lack Stands_before Stands Begun Before Told t turns before now outcomes.TurnsSpent ran is within g never = absurd never
run_ended may_fail next effects may_lack Stands_before Stands Begun Before Told t turns before now (outcomes.Fault fault) ran is within g part =
    broken may_fail (may_fail Asking fault) (may_fail Giving fault) next effects may_lack Stands_before Stands Begun Before Told t turns before now (outcomes.Fault fault) ran is within (λ outs given cut off. off) g part
run_ended may_fail next effects may_lack Stands_before Stands Begun Before Told t turns before now outcomes.Memory ran is within g part =
    broken may_fail (Unit {0}) (Unit {0}) next effects may_lack Stands_before Stands Begun Before Told t turns before now outcomes.Memory ran is within (λ outs given cut off. off) g part

-- no event was taken at all
pub none_taken : {T : Type 0} (may_fail : LinkCall → LinkFault → Type 0) (next : Bool → T → Event → T) (effects : Bool → T → Event → List Action) (may_lack : T → Event → Lack → Type 0)
    (Stands : T → Type 0) (Told : Option Action → List Round → Type 0) (t : T) (turns : ℕ) (ran : Ran) → Stands t →
    Ends may_fail ran.outcome turns [] [] None → ran.events ≡ 0 → ran.lost ≡ 0 → ran.refused ≡ 0 →
    RunOver may_fail next effects may_lack Stands Told Told t turns ran
none_taken may_fail next effects may_lack Stands Told t turns ran stands ended events lost refused = record {
  entries = [];
  rounds = [];
  part = None;
  may = tt;
  stands = stands;
  told = λ before told. subst (Told None) (sym (append-nil before)) told;
  came = refl;
  wires = tt;
  ended = ended;
  events = events;
  lost = lost;
  refused = refused;
}
