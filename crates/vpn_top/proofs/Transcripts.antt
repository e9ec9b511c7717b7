-- Fronts of a transcript, and the end that stops a run.
use Rattle.std.proofs.Common.{◌≡◌, ℕ, zero, suc, ◌+◌, ◌<◌, Bool, true, false, List, [], ◌∷◌, ◌++◌, length, take, drop, refl, ap, sym, ◌∙◌, subst, arith, append-nil, append_assoc, slice_get}
use Rattle.std.specs.Prelude.{Option, Some, None, IsTrue, ◌&&◌, not}
use Rattle.std.proofs.lemmas.Bool.{false≢true}
use Rattle.std.proofs.lemmas.List.{take-append-drop}
use Rattle.std.proofs.lemmas.Option.{none-some}
use Rattle.std.proofs.Math.Seq.{take-append_seam}
use Rattle.vpn_links.specs.Actions.{Action, stops}
use Rattle.vpn_links.specs.Faults.{Asking, Giving}
use Rattle.vpn_links.specs.Steps.{Lack, LacksAll, LacksHost, LacksNothing}
use Rattle.vpn_links.specs.declared.events.Event.{Event}
use Rattle.vpn_links.specs.declared.events.Kind.TheVariants.{Halt}
use Rattle.schedule_text.specs.EffectLine.{effect_line}
use Rattle.vpn_node.specs.Running.{Between, BrokeOff, Ends, Within, cut_last, last_of, stops_last}
use Rattle.vpn_node.specs.declared.outcome.Outcome.{Outcome}
use Rattle.vpn_node.specs.declared.outcome.Outcome.TheVariants as outcomes
use Rattle.replay_links.specs.Replay.{IsFront, MayFail}
use Rattle.replay_links.specs.Schedule.{EndWithHalt}
use Rattle.server_table.specs.Courses.{outs}
use Rattle.server_table.specs.Runs.{Entry, after, outs_at, run}
use Rattle.server_table.specs.Step.{step}
use Rattle.server_table.specs.Table.{Table}
use Rattle.server_replay.specs.Replays.{most_turns}
use Rattle.server_replay.specs.Runs.{events_of}
use Rattle.server_replay.specs.Transcript.{effect_lines, transcript, transcript_from}

-- a text is a front of another
pub record Begins (front whole : List ℕ) : Type 0 where
  pub rest : List ℕ
  pub same : whole ≡ front ++ rest

-- it is the first bytes of it
pub front_taken : (front whole : List ℕ) → Begins front whole → front ≡ take (length front) whole
front_taken front whole b = sym (ap (take (length front)) b.same ∙ take-append_seam front b.rest)

-- and a front of what stands with more behind it
pub begins_longer : (front whole more : List ℕ) → Begins front whole → Begins front (whole ++ more)
begins_longer front whole more b = record { rest = b.rest ++ more; same = ap (λ l. l ++ more) b.same ∙ append_assoc front b.rest more }

-- a text with a front of what stands behind it
pub begins_behind : (text more : List ℕ) (n : ℕ) → Begins (text ++ take n more) (text ++ more)
begins_behind text more n = record { rest = drop n more; same = ap (λ l. text ++ l) (sym (take-append-drop n more)) ∙ sym (append_assoc text (take n more) (drop n more)) }

abbrev action_or : Action → Option Action → Action
action_or a None = a
action_or a (Some b) = b

-- ---- a front of the lines

-- the first n lines, and a front of the next one
lines_cut : (number : ℕ) (actions : List Action) (n k : ℕ) (a : Action) → Some a ≡ slice_get actions n → Begins (effect_lines number (take n actions) ++ take k (effect_line number a)) (effect_lines number actions)
lines_cut number [] n k a at = absurd (none-some a (sym at))
lines_cut number (b ∷ actions) zero k a at =
    let line = effect_line number b in
    subst (λ (x : Action). Begins (take k (effect_line number x)) (line ++ effect_lines number actions)) (sym (ap (action_or b) at))
    (begins_longer (take k line) line (effect_lines number actions) (begins_behind [] line k))
lines_cut number (b ∷ actions) (suc n) k a at =
    let line = effect_line number b in
    let less = lines_cut number actions n k a at in
    let front = effect_lines number (take n actions) in
    let part = take k (effect_line number a) in
    record {
      rest = less.rest;
      same = ap (λ l. line ++ l) less.same ∙ (sym (append_assoc line (front ++ part) less.rest) ∙ ap (λ l. l ++ less.rest) (sym (append_assoc line front part)));
    }

-- the same of the lines of all events
transcript_cut : (number : ℕ) (all : List (List Action)) (n k last : ℕ) (a : Action) → Some a ≡ slice_get (last_of all) n → last + 1 ≡ number + length all →
    Begins (transcript_from number (cut_last n all) ++ take k (effect_line last a)) (transcript_from number all)
transcript_cut number [] n k last a at is = absurd (none-some a (sym at))
transcript_cut number (actions ∷ []) n k last a at is =
    let same : last ≡ number = omega (arith, is) in
    let part = take k (effect_line number a) in
    let lines = lines_cut number actions n k a at in
    subst (λ (m : ℕ). Begins (transcript_from number (take n actions ∷ []) ++ take k (effect_line m a)) (transcript_from number (actions ∷ []))) (sym same)
    (record {
      rest = lines.rest;
      same = append-nil (effect_lines number actions) ∙ (lines.same ∙ ap (λ l. (l ++ part) ++ lines.rest) (sym (append-nil (effect_lines number (take n actions)))));
    })
transcript_cut number (actions ∷ more ∷ all) n k last a at is =
    let first = effect_lines number actions in
    let rest = transcript_from (suc number) (cut_last n (more ∷ all)) in
    let part = take k (effect_line last a) in
    let less = transcript_cut (suc number) (more ∷ all) n k last a at (omega (arith, is)) in
    record {
      rest = less.rest;
      same = ap (λ l. first ++ l) less.same ∙ (sym (append_assoc first (rest ++ part) less.rest) ∙ ap (λ l. l ++ less.rest) (sym (append_assoc first rest part)));
    }

none_there : {A : Type 0} (xs : List A) (n : ℕ) → n < length xs → None ≡ slice_get xs n → ⊥
none_there [] n within none = omega (arith, within)
none_there (x ∷ xs) zero within none = none-some x none
none_there (x ∷ xs) (suc n) within none = none_there xs n (omega (arith, within)) none

-- ---- what was written of a run

no_front : (is_cut : Bool) (count : ℕ) (part : Option Action) (front : List ℕ) → part ≡ None → IsFront is_cut count part front → front ≡ []
no_front false count part front none is = is
no_front true count None front none is = absurd is
no_front true count (Some a) front none is = absurd (none-some a (sym none))

whole_begins : (is_cut : Bool) (all given : List (List Action)) (part : Option Action) (front : List ℕ) → given ≡ all → part ≡ None → IsFront is_cut (length all) part front →
    Begins (transcript given ++ front) (transcript all)
whole_begins is_cut all given part front whole none is = record {
  rest = [];
  same = ap transcript (sym whole) ∙ (sym (append-nil (transcript given))
      ∙ (ap (λ l. transcript given ++ l) (sym (no_front is_cut (length all) part front none is)) ∙ sym (append-nil (transcript given ++ front))));
}

part_begins : (is_cut : Bool) (all : List (List Action)) (n : ℕ) (part : Option Action) (front : List ℕ) → part ≡ slice_get (last_of all) n → n < length (last_of all) → IsFront is_cut (length all) part front →
    Begins (transcript (cut_last n all) ++ front) (transcript all)
part_begins is_cut all n None front at within is = absurd (none_there (last_of all) n within at)
part_begins false [] n (Some a) front at within is = absurd (none-some a (sym at))
part_begins false (o ∷ all) n (Some a) front at within is =
    subst (λ (l : List ℕ). Begins (transcript (cut_last n (o ∷ all)) ++ l) (transcript (o ∷ all))) (sym is)
    (transcript_cut 0 (o ∷ all) n 0 (length all) a at (omega arith))
part_begins true all n (Some a) front at within is =
    subst (λ (l : List ℕ). Begins (transcript (cut_last n all) ++ l) (transcript all)) (sym is.3)
    (transcript_cut 0 all n is.1 is.0 a at (let last = is.2 in omega (arith, last)))

broken_begins : (may_ask may_give : Type 0) (turns : ℕ) (is_cut : Bool) (all given : List (List Action)) (part : Option Action) (front : List ℕ) → BrokeOff may_ask may_give turns all given part →
    IsFront is_cut (length all) part front → Begins (transcript given ++ front) (transcript all)
broken_begins may_ask may_give turns is_cut all given part front (Between may whole none onward fewer) is = whole_begins is_cut all given part front whole none is
broken_begins may_ask may_give turns is_cut all given part front (Within may n first at within only most) is =
    subst (λ (g : List (List Action)). Begins (transcript g ++ front) (transcript all)) (sym first) (part_begins is_cut all n part front at within is)

-- whatever it came to, the lines of what was given, with the front of a line that was cut, are a front of the transcript
pub run_begins : (outcome : Outcome) (is_cut : Bool) (all given : List (List Action)) (part : Option Action) (front : List ℕ) → Ends MayFail outcome most_turns all given part →
    IsFront is_cut (length all) part front → Begins (transcript given ++ front) (transcript all)
run_begins outcomes.Stopped is_cut all given part front ended is = whole_begins is_cut all given part front ended.0 ended.1 is
run_begins outcomes.TurnsSpent is_cut all given part front ended is = whole_begins is_cut all given part front ended.0 ended.1 is
run_begins (outcomes.Fault fault) is_cut all given part front ended is = broken_begins (MayFail Asking fault) (MayFail Giving fault) most_turns is_cut all given part front ended is
run_begins outcomes.Memory is_cut all given part front ended is = broken_begins (Unit {0}) (Unit {0}) most_turns is_cut all given part front ended is

-- ---- the end that stops a run

-- the law of the server: Stop comes of the end alone
abbrev pub StopOfEnd : Type 0
StopOfEnd = (lacks : Bool) (t : Table) (event : Event) → stops (outs (step lacks t event)) ≡ true → event.kind ≡ Halt

stop_halts : StopOfEnd → (t : Table) (event : Event) (lack : Lack) → stops (outs_at t (event, lack)) ≡ true → event.kind ≡ Halt
stop_halts law t event LacksNothing is = law false t event is
stop_halts law t event LacksAll is = absurd (false≢true is)
stop_halts law t event LacksHost is = law true t event is

and_last : (a b : Bool) → (not a && b) ≡ true → b ≡ true
and_last false b is = is
and_last true b is = absurd (false≢true is)

-- the last event of a run that was stopped is the end
pub halted_last : StopOfEnd → (t : Table) (entries : List Entry) → IsTrue (stops_last (run t entries)) → EndWithHalt (events_of entries)
halted_last law t [] is = absurd (false≢true is)
halted_last law t (entry ∷ []) is = record { before = []; last = entry.0; all = refl; halts = stop_halts law t entry.0 entry.1 is }
halted_last law t (entry ∷ next ∷ entries) is =
    let less = halted_last law (after t entry) (next ∷ entries) (and_last (stops (outs_at t entry)) (stops_last (run (after t entry) (next ∷ entries))) is) in
    record { before = entry.0 ∷ less.before; last = less.last; all = ap (λ (l : List Event). entry.0 ∷ l) less.all; halts = less.halts }
