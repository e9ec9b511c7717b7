-- What a run of a node over the server's definitions comes to.
use Rattle.std.proofs.Common.{◌≡◌, ℕ, Bool, List, [], ◌∷◌, inl, refl, ap, sym, ◌∙◌, subst, arith, append-nil, Option, None}
use Rattle.std.proofs.lemmas.List.{length-map}
use Rattle.vpn_links.specs.Actions.{Action}
use Rattle.vpn_links.specs.Faults.{Asking, Giving, LinkCall}
use Rattle.vpn_links.specs.Rounds.{Given, Round}
use Rattle.vpn_links.specs.Steps.{Lack}
use Rattle.vpn_links.specs.declared.events.Event.{Event}
use Rattle.vpn_links.specs.declared.links.LinkFault.{LinkFault}
use Rattle.vpn_node.specs.Running as node
use Rattle.vpn_node.specs.Running.{Between, BrokeOff, Ends, OnlyWireLost, OnlyWiresLost, RunOver, Within, capped, given_in}
use Rattle.vpn_node.specs.declared.outcome.Outcome.{Outcome}
use Rattle.vpn_node.specs.declared.outcome.Outcome.TheVariants as outcomes
use Rattle.vpn_node.specs.declared.outcome.Ran.{Ran}
use Rattle.server_table.specs.Runs.{MayLack}
use Rattle.server_table.specs.Table.{Table}
use Rattle.server_core.specs.Steps.{next_table, told_of}
use Rattle.server_replay.specs.Replays.{most_turns}
use Rattle.server_replay.specs.internal.Serving.{Served, with_start}
use Rattle.server_replay.proofs.Runs.{entries_of, entry_of, events_same, left_in_same, may_run, nothing_lacks, run_same}

-- ---- an outside that is started and run

broke_started : (may_fail : LinkCall → LinkFault → Type 0) (fault : LinkFault) (turns : ℕ) (outs given : List (List Action)) (part : Option Action) →
    BrokeOff (may_fail Asking fault) (may_fail Giving fault) turns outs given part →
    BrokeOff (with_start may_fail Asking fault) (with_start may_fail Giving fault) turns outs given part
broke_started may_fail fault turns outs given part (Between may whole none onward fewer) = Between (inl may) whole none onward fewer
broke_started may_fail fault turns outs given part (Within may n first at within only most) = Within may n first at within only most

pub ended_started : (may_fail : LinkCall → LinkFault → Type 0) (outcome : Outcome) (turns : ℕ) (outs given : List (List Action)) (part : Option Action) →
    Ends may_fail outcome turns outs given part → Ends (with_start may_fail) outcome turns outs given part
ended_started may_fail outcomes.Stopped turns outs given part is = is
ended_started may_fail outcomes.TurnsSpent turns outs given part is = is
ended_started may_fail (outcomes.Fault fault) turns outs given part is = broke_started may_fail fault turns outs given part is
ended_started may_fail outcomes.Memory turns outs given part is = is

wire_started : (may_fail : LinkCall → LinkFault → Type 0) (given : List Given) → OnlyWireLost may_fail given → OnlyWireLost (with_start may_fail) given
wire_started may_fail [] is = tt
wire_started may_fail (g ∷ given) is = (is.0, wire_started may_fail given is.1)

pub wires_started : (may_fail : LinkCall → LinkFault → Type 0) (rounds : List Round) → OnlyWiresLost may_fail rounds → OnlyWiresLost (with_start may_fail) rounds
wires_started may_fail [] is = tt
wires_started may_fail (r ∷ rounds) is = (wire_started may_fail r.effects is.0, wires_started may_fail rounds is.1)

-- the same of a run over an outside that was started before
pub over_started : {T : Type 0} (may_fail : LinkCall → LinkFault → Type 0) (next : Bool → T → Event → T) (effects : Bool → T → Event → List Action) (may_lack : T → Event → Lack → Type 0)
    (Stands : T → Type 0) (Told_first Told_before Told : Option Action → List Round → Type 0) (t : T) (turns : ℕ) (ran : Ran) → ((l : List Round) → Told_first None l → Told_before None l) →
    RunOver may_fail next effects may_lack Stands Told_before Told t turns ran →
    RunOver (with_start may_fail) next effects may_lack Stands Told_first Told t turns ran
over_started may_fail next effects may_lack Stands Told_first Told_before Told t turns ran first r = record {
  entries = r.entries;
  rounds = r.rounds;
  part = r.part;
  may = r.may;
  stands = r.stands;
  told = λ before is. r.told before (first before is);
  came = r.came;
  wires = wires_started may_fail r.rounds r.wires;
  ended = ended_started may_fail ran.outcome turns (node.run next effects t r.entries) (given_in r.rounds) r.part r.ended;
  events = r.events;
  lost = r.lost;
  refused = r.refused;
}

-- ---- what it comes to

-- of no event
pub over_none : {T : Type 0} (may_fail : LinkCall → LinkFault → Type 0) (next : Bool → T → Event → T) (effects : Bool → T → Event → List Action) (may_lack : T → Event → Lack → Type 0)
    (Stands : T → Type 0) (Told_before Told : Option Action → List Round → Type 0) (t : T) (turns : ℕ) (ran : Ran) → Stands t →
    ((l : List Round) → Told_before None l → Told None l) → Ends may_fail ran.outcome turns [] [] None → ran.events ≡ 0 → ran.lost ≡ 0 → ran.refused ≡ 0 →
    RunOver may_fail next effects may_lack Stands Told_before Told t turns ran
over_none may_fail next effects may_lack Stands Told_before Told t turns ran stands told ended events lost refused = record {
  entries = [];
  rounds = [];
  part = None;
  may = tt;
  stands = stands;
  told = λ before is. subst (Told None) (sym (append-nil before)) (told before is);
  came = refl;
  wires = tt;
  ended = ended;
  events = events;
  lost = lost;
  refused = refused;
}

-- the same of the server
pub served_none : (may_fail : LinkCall → LinkFault → Type 0) (t : Table) (Told : Option Action → List Round → Type 0) (ran : Ran) → Ends may_fail ran.outcome most_turns [] [] None → ran.events ≡ 0 → ran.lost ≡ 0 → ran.refused ≡ 0 →
    Served may_fail t Told Told ran
served_none may_fail t Told ran ended events lost refused = record {
  entries = [];
  rounds = [];
  part = None;
  may = tt;
  told = λ before is. subst (Told None) (sym (append-nil before)) is;
  came = refl;
  wires = tt;
  ended = ended;
  events = events;
  lost = lost;
  refused = refused;
  whole = λ none. tt;
}

none_capped : (n : ℕ) → capped n ≡ 0 → n ≡ 0
none_capped n none = omega (arith, none)

-- of a run
pub served : {Stands : Table → Type 0} {Told_before Told : Option Action → List Round → Type 0} (may_fail : LinkCall → LinkFault → Type 0) (t : Table) (ran : Ran) →
    RunOver may_fail next_table told_of MayLack Stands Told_before Told t most_turns ran → Served may_fail t Told_before Told ran
served may_fail t ran r =
    let may = may_run t r.entries r.may in
    let refused = r.refused ∙ ap capped (left_in_same t r.entries) in
    record {
      entries = entries_of r.entries;
      rounds = r.rounds;
      part = r.part;
      may = may;
      told = r.told;
      came = r.came ∙ events_same r.entries;
      wires = r.wires;
      ended = subst (λ outs. Ends may_fail ran.outcome most_turns outs (given_in r.rounds) r.part) (run_same t r.entries) r.ended;
      events = r.events ∙ sym (length-map r.entries entry_of);
      lost = r.lost;
      refused = refused;
      whole = λ none. nothing_lacks t (entries_of r.entries) may (none_capped _ (sym refused ∙ none));
    }
