-- What a replay comes to, by what its links stand for at its end.
use Rattle.std.proofs.Common.{◌≡◌, ℕ, suc, ◌+◌, ◌≤◌, ◌<◌, Bool, true, false, List, [], ◌++◌, length, refl, ap, sym, ◌∙◌, subst, arith, inl, inr, zero, ◌∷◌, Option, None, Some}
use Rattle.std.specs.Prelude.{◌⊎◌}
use Rattle.std.proofs.lemmas.List.{length-map}
use Rattle.vpn_base.specs.Answers.{Rose}
use Rattle.vpn_base.specs.Files.{Holding}
use Rattle.vpn_base.specs.Sink.{appended}
use Rattle.vpn_links.specs.Actions.{Action}
use Rattle.vpn_links.specs.Faults.{Asking, Giving}
use Rattle.vpn_links.specs.Rounds.{Given, Round}
use Rattle.vpn_links.specs.declared.events.Event.{Event}
use Rattle.vpn_links.specs.declared.links.LinkFault.{LinkFault}
use Rattle.vpn_links.specs.declared.links.LinkFault.TheVariants as faults
use Rattle.vpn_node.specs.Running.{Between, BrokeOff, Ends, OnlyWireLost, OnlyWiresLost, Within, capped, given_in, lost_by, lost_of, one_if}
use Rattle.vpn_node.specs.declared.outcome.Outcome.{Outcome}
use Rattle.vpn_node.specs.declared.outcome.Outcome.TheVariants as outcomes
use Rattle.vpn_node.specs.declared.outcome.Ran.{Ran}
use Rattle.replay_links.specs.Replay.{Backing, Came, Caused, IsFront, MayFail, Replay, ReplayStands, Wrote, backing_of, before_cut, begun_of, replay_faults}
use Rattle.replay_links.specs.Replay as links
use Rattle.replay_links.specs.declared.end.ReplayEnd.{ReplayEnd}
use Rattle.replay_links.specs.declared.end.ReplayEnd.TheVariants as ends
use Rattle.server_table.specs.Runs.{Entry, run}
use Rattle.server_table.specs.Table.{Table}
use Rattle.server_replay.specs.Replays.{AreSpelled, BrokeBy, IsReplay, most_turns}
use Rattle.server_replay.specs.Runs.{events_of}
use Rattle.server_replay.specs.internal.Serving.{Counted, Served, with_start}
use Rattle.server_replay.proofs.Halts.{EndStops, TakesYet, ended_only}
use Rattle.server_replay.proofs.Spelled.{WholeEnds, first_spelled}
use Rattle.server_replay.proofs.Written.{transcript_same}

-- ---- how it ended

-- the links of a replay start without a fault
broke_so : (fault : LinkFault) (turns : ℕ) (outs given : List (List Action)) (part : Option Action) → BrokeOff (with_start MayFail Asking fault) (with_start MayFail Giving fault) turns outs given part →
    BrokeOff (MayFail Asking fault) (MayFail Giving fault) turns outs given part
broke_so fault turns outs given part (Between (inl may) whole none onward fewer) = Between may whole none onward fewer
broke_so fault turns outs given part (Between (inr never) whole none onward fewer) = absurd never
broke_so fault turns outs given part (Within may n first at within only most) = Within may n first at within only most

ended_so : (outcome : Outcome) (turns : ℕ) (outs given : List (List Action)) (part : Option Action) → Ends (with_start MayFail) outcome turns outs given part → Ends MayFail outcome turns outs given part
ended_so outcomes.Stopped turns outs given part is = is
ended_so outcomes.TurnsSpent turns outs given part is = is
ended_so outcomes.Memory turns outs given part is = is
ended_so (outcomes.Fault fault) turns outs given part is = broke_so fault turns outs given part is

never_broke : (turns : ℕ) (outs given : List (List Action)) (part : Option Action) → BrokeOff ⊥ ⊥ turns outs given part → ⊥
never_broke turns outs given part (Between never whole none onward fewer) = never
never_broke turns outs given part (Within never n first at within only most) = never

-- and lose nothing
none_lost : (given : List Given) → OnlyWireLost (with_start MayFail) given → lost_of given ≡ 0
none_lost [] wires = refl
none_lost (g ∷ given) wires = let rest = none_lost given wires.1 in omega (arith, rest, by g.is_lost refl)
  where
    by : (b : Bool) → g.is_lost ≡ b → one_if g.is_lost ≡ 0
    by false is = ap one_if is
    by true is = absurd (wires.0 is).1

nothing_lost : (rounds : List Round) → OnlyWiresLost (with_start MayFail) rounds → lost_by rounds ≡ 0
nothing_lost [] wires = refl
nothing_lost (r ∷ rounds) wires = let first = none_lost r.effects wires.0 in let rest = nothing_lost rounds wires.1 in omega (arith, first, rest)

input_by : (files files_now missing : ℕ) (ended : Option ReplayEnd) → Rose (files + 0) (files_now + missing) → (0 < missing → ended ≡ Some ends.Missing) →
    (ended ≡ Some ends.Missing) ⊎ Rose files files_now
input_by files files_now zero ended rose no_file = inr (omega (arith, rose))
input_by files files_now (suc n) ended rose no_file = inl (no_file (omega arith))

-- ---- what it came to

module _ {F S : Type 0} (holds : F → List ℕ → Holding) (contents : S → Option (List ℕ)) (files_count : F → ℕ) (out_count : S → ℕ) where
  begun_uncut : (first : Replay F S) → ReplayStands holds contents first None [] → first.is_cut ≡ false
  begun_uncut first s = by_cut first.is_cut refl s.wrote
    where
      by_cut : (b : Bool) → first.is_cut ≡ b → Wrote (contents first.out) first.written b None [] → first.is_cut ≡ false
      by_cut false is w = is
      by_cut true is w = absurd w.cut

  -- what broke it off
  pub broke : (first last : Replay F S) (rounds : List Round) (outcome : Outcome) (outs given : List (List Action)) (part : Option Action) → Ends (with_start MayFail) outcome most_turns outs given part →
      first.missing ≡ 0 → first.refused ≡ 0 → ReplayStands holds contents last part rounds →
      Counted outcome (replay_faults files_count out_count first) (replay_faults files_count out_count last) →
      BrokeBy outcome last.ended (files_count first.files, files_count last.files) (out_count first.out, out_count last.out)
  broke first last rounds outcomes.Stopped outs given part ended missing refused s counted = tt
  broke first last rounds outcomes.TurnsSpent outs given part ended missing refused s counted = tt
  broke first last rounds outcomes.Memory outs given part ended missing refused s counted = tt
  broke first last rounds (outcomes.Fault faults.Input) outs given part ended missing refused s counted =
      input_by (files_count first.files) (files_count last.files) last.missing last.ended
      (subst (λ (n : ℕ). Rose (files_count first.files + n) (files_count last.files + last.missing)) missing counted) s.no_file
  broke first last rounds (outcomes.Fault faults.Output) outs given part ended missing refused s counted = counted
  broke first last rounds (outcomes.Fault faults.Schedule) outs given part ended missing refused s counted = s.a_line (omega (arith, refused, counted))
  broke first last rounds (outcomes.Fault faults.Wire) outs given part ended missing refused s counted =
      never_broke most_turns outs given part (ended_so (outcomes.Fault faults.Wire) most_turns outs given part ended)
  broke first last rounds (outcomes.Fault faults.Engine) outs given part ended missing refused s counted =
      never_broke most_turns outs given part (ended_so (outcomes.Fault faults.Engine) most_turns outs given part ended)
  broke first last rounds (outcomes.Fault faults.Device) outs given part ended missing refused s counted =
      never_broke most_turns outs given part (ended_so (outcomes.Fault faults.Device) most_turns outs given part ended)
  broke first last rounds (outcomes.Fault faults.Console) outs given part ended missing refused s counted =
      never_broke most_turns outs given part (ended_so (outcomes.Fault faults.Console) most_turns outs given part ended)
  broke first last rounds (outcomes.Fault faults.Random) outs given part ended missing refused s counted =
      never_broke most_turns outs given part (ended_so (outcomes.Fault faults.Random) most_turns outs given part ended)

  -- no line was cut before, so where one is now the output failed
  pub uncut : (first last : Replay F S) → ReplayStands holds contents first None [] → ((k : LinkFault) → replay_faults files_count out_count first k ≤ replay_faults files_count out_count last k) →
      last.is_cut ≡ true → before_cut false (out_count first.out) ≤ before_cut true (out_count last.out)
  uncut first last s falls cut =
      subst (λ (b : Bool). before_cut false (out_count first.out) ≤ before_cut b (out_count last.out)) cut
      (subst (λ (b : Bool). before_cut b (out_count first.out) ≤ before_cut last.is_cut (out_count last.out)) (begun_uncut first s) (falls faults.Wire))

  -- the whole
  pub replayed : (t : Table) (first last : Replay F S) (name : List ℕ) (held : List ℕ → Holding) (before : Option (List ℕ)) (ran : Ran) →
      ReplayStands holds contents first None [] → backing_of holds contents first ≡ record { name = name; holds = held; begun = before } →
      backing_of holds contents last ≡ backing_of holds contents first →
      (r : Served (with_start MayFail) t (ReplayStands holds contents first) (ReplayStands holds contents last) ran) →
      WholeEnds → EndStops → TakesYet t (length r.entries) →
      IsReplay t (held name) before (contents last.out) last.ended last.is_cut ran
  replayed t first last name held before ran begun backing same r whole law takes =
      let s = r.told [] begun in
      let is = same ∙ backing in
      let same_held : holds last.files last.name ≡ held name = ap (λ (b : Backing). b.holds b.name) is in
      let wrote : begun_of (contents last.out) last.written ≡ before = ap (λ (b : Backing). b.begun) is in
      let over = ended_only (with_start MayFail) ran.outcome most_turns (run t r.entries) (given_in r.rounds) r.part r.ended in
      record {
        entries = r.entries;
        given = given_in r.rounds;
        part = r.part;
        front = s.wrote.front;
        may = r.may;
        schedule = record {
          is_read = last.is_open;
          text = last.text;
          left = last.left;
          fault = last.fault;
          spelled = subst (λ (h : Holding). AreSpelled h last.is_open last.text last.left last.fault (events_of r.entries)) same_held
              (first_spelled whole law t r.entries (holds last.files last.name) last.is_open last.text last.left last.fault takes r.may over.0
              (subst (λ (l : List Event). Came (holds last.files last.name) last.is_open last.text last.left last.fault l) r.came s.events));
          cause = subst (λ (h : Holding). Caused h last.is_open last.left last.fault last.ended) same_held s.cause;
        };
        outcome = ended_so ran.outcome most_turns (run t r.entries) (given_in r.rounds) r.part r.ended;
        cut = subst (λ (n : ℕ). IsFront last.is_cut n r.part s.wrote.front) (sym (length-map r.rounds (λ (q : Round). q.event)) ∙ (ap length r.came ∙ length-map r.entries (λ (e : Entry). e.0))) s.wrote.cut;
        written = s.wrote.holds ∙ ap (λ (c : Option (List ℕ)). appended c (links.transcript r.rounds ++ s.wrote.front)) wrote
            ∙ ap (λ (l : List ℕ). appended before (l ++ s.wrote.front)) (transcript_same r.rounds);
        events = r.events;
        lost = r.lost ∙ ap capped (nothing_lost r.rounds r.wires);
        refused = r.refused;
        whole = r.whole;
      }

  -- ---- the same of what was taken apart

  pub replayed_apart : (t : Table) (first last : Replay F S) (name : List ℕ) (held : List ℕ → Holding) (before : Option (List ℕ)) (ran : Ran)
      (out : S) (ended : Option ReplayEnd) (is_cut : Bool) (told : Ran) → out ≡ last.out → ended ≡ last.ended → is_cut ≡ last.is_cut → told ≡ ran →
      ReplayStands holds contents first None [] → backing_of holds contents first ≡ record { name = name; holds = held; begun = before } →
      backing_of holds contents last ≡ backing_of holds contents first →
      (r : Served (with_start MayFail) t (ReplayStands holds contents first) (ReplayStands holds contents last) ran) →
      WholeEnds → EndStops → TakesYet t (length r.entries) →
      IsReplay t (held name) before (contents out) ended is_cut told
  replayed_apart t first last name held before ran out ended is_cut told is_out is_ended is_so is_told begun backing same r whole law takes =
      subst (λ (x : S). IsReplay t (held name) before (contents x) ended is_cut told) (sym is_out)
      (subst (λ (x : Option ReplayEnd). IsReplay t (held name) before (contents last.out) x is_cut told) (sym is_ended)
      (subst (λ (x : Bool). IsReplay t (held name) before (contents last.out) last.ended x told) (sym is_so)
      (subst (λ (x : Ran). IsReplay t (held name) before (contents last.out) last.ended last.is_cut x) (sym is_told)
      (replayed t first last name held before ran begun backing same r whole law takes))))

  pub broke_apart : (t : Table) (first last : Replay F S) (ran : Ran) (files files_now : F) (out out_now : S) (ended : Option ReplayEnd) (told : Ran) →
      files_now ≡ last.files → out_now ≡ last.out → ended ≡ last.ended → told ≡ ran →
      first.files ≡ files → first.out ≡ out → first.missing ≡ 0 → first.refused ≡ 0 → ReplayStands holds contents first None [] →
      Served (with_start MayFail) t (ReplayStands holds contents first) (ReplayStands holds contents last) ran →
      Counted ran.outcome (replay_faults files_count out_count first) (replay_faults files_count out_count last) →
      BrokeBy told.outcome ended (files_count files, files_count files_now) (out_count out, out_count out_now)
  broke_apart t first last ran files files_now out out_now ended told is_files is_out is_ended is_told had_files had_out missing refused begun r counted =
      subst (λ (x : F). BrokeBy told.outcome ended (files_count files, files_count x) (out_count out, out_count out_now)) (sym is_files)
      (subst (λ (x : S). BrokeBy told.outcome ended (files_count files, files_count last.files) (out_count out, out_count x)) (sym is_out)
      (subst (λ (x : Option ReplayEnd). BrokeBy told.outcome x (files_count files, files_count last.files) (out_count out, out_count last.out)) (sym is_ended)
      (subst (λ (x : Ran). BrokeBy x.outcome last.ended (files_count files, files_count last.files) (out_count out, out_count last.out)) (sym is_told)
      (subst (λ (x : F). BrokeBy ran.outcome last.ended (files_count x, files_count last.files) (out_count out, out_count last.out)) had_files
      (subst (λ (x : S). BrokeBy ran.outcome last.ended (files_count first.files, files_count last.files) (out_count x, out_count last.out)) had_out
      (broke first last r.rounds ran.outcome (run t r.entries) (given_in r.rounds) r.part r.ended missing refused (r.told [] begun) counted))))))

  pub uncut_apart : (first last : Replay F S) (out out_now : S) (is_cut : Bool) → out_now ≡ last.out → is_cut ≡ last.is_cut → first.out ≡ out → ReplayStands holds contents first None [] →
      ((k : LinkFault) → replay_faults files_count out_count first k ≤ replay_faults files_count out_count last k) →
      is_cut ≡ true → before_cut false (out_count out) ≤ before_cut true (out_count out_now)
  uncut_apart first last out out_now is_cut is_out is_so had_out begun falls cut =
      subst (λ (x : S). before_cut false (out_count out) ≤ before_cut true (out_count x)) (sym is_out)
      (subst (λ (x : S). before_cut false (out_count x) ≤ before_cut true (out_count last.out)) had_out (uncut first last begun falls (sym is_so ∙ cut)))
