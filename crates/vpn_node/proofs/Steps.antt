-- One event: its step, and the giving of its effects.
use Rattle.std.proofs.Common.{◌≡◌, ℕ, ◌+◌, ◌^◌, ◌<◌, Bool, true, false, List, [], ◌∷◌, ◌++◌, length, refl, ap, sym, ◌∙◌, subst, arith, slice_get, Some, None, Option}
use Rattle.std.proofs.lemmas.List.{map-append}
use Rattle.vpn_links.specs.Actions.{Action, Contents}
use Rattle.vpn_links.specs.Faults.{LinkCall}
use Rattle.vpn_links.specs.Rounds.{Given, Round}
use Rattle.vpn_links.specs.Steps.{Lack, LacksHost, LacksNothing, Stepped}
use Rattle.vpn_links.specs.declared.events.Event.{Event}
use Rattle.vpn_links.specs.declared.links.LinkFault.{LinkFault}
use Rattle.vpn_node.specs.Running.{capped, lost_of, not_learned, one_if}
use Rattle.vpn_node.specs.internal.Turns.{GaveAlso, GaveFirst, GaveNone, TookStep}
use Rattle.vpn_node.proofs.Lists.{capped_on, gave_behind, lost_one, take_next, wires_one}

took_lacking : {T : Type 0} (next : Bool → T → Event → T) (effects : Bool → T → Event → List Action) (may_lack : T → Event → Lack → Type 0)
    (Stands : T → Type 0) (t : T) (event : Event) (out : Contents) (refused : ℕ) (lacks : Bool) →
    (lacks ≡ true → may_lack t event LacksHost) → Stands (next lacks t event) → out.effects ≡ effects lacks t event → refused ≡ not_learned out.effects →
    TookStep next effects may_lack Stands t event out refused
took_lacking next effects may_lack Stands t event out refused true may stands holds counted = record {
  lack = LacksHost;
  may = may refl;
  stands = stands;
  holds = holds;
  counted = counted ∙ ap not_learned holds;
}
took_lacking next effects may_lack Stands t event out refused false may stands holds counted = record {
  lack = LacksNothing;
  may = tt;
  stands = stands;
  holds = holds;
  counted = counted ∙ ap not_learned holds;
}

-- the core took the event
pub took_event : {T : Type 0} (next : Bool → T → Event → T) (effects : Bool → T → Event → List Action) (may_lack : T → Event → Lack → Type 0)
    (Stands : T → Type 0) (t : T) (event : Event) (before : List Action) (out : Contents) (refused : ℕ) →
    Stepped next effects may_lack Stands t event before out → before ≡ [] → refused ≡ not_learned out.effects →
    TookStep next effects may_lack Stands t event out refused
took_event next effects may_lack Stands t event before out refused s empty counted =
    took_lacking next effects may_lack Stands t event out refused s.lacks s.may s.stands
    (s.told.0 ∙ ap (λ l. l ++ effects s.lacks t event) empty) counted

-- nothing was given yet
pub gave_none : (may_fail : LinkCall → LinkFault → Type 0) (actions : List Action) (Told : List Round → Type 0) (lost : ℕ) → lost < 2 ^ 64 → GaveFirst may_fail 0 actions Told Told lost lost
gave_none may_fail actions Told lost fits = record {
  given = [];
  same = refl;
  wires = tt;
  told = λ rounds event before. before;
  counted = omega (arith, fits);
}

-- one effect more was given
pub gave_more : (may_fail : LinkCall → LinkFault → Type 0) (i : ℕ) (actions : List Action) (action : Action) (Begun Before Told : List Round → Type 0) (lost_begun lost_before lost : ℕ) →
    Some action ≡ slice_get actions i → GaveFirst may_fail i actions Begun Before lost_begun lost_before → GaveAlso may_fail action Before Told lost_before lost →
    GaveFirst may_fail (i + 1) actions Begun Told lost_begun lost
gave_more may_fail i actions action Begun Before Told lost_begun lost_before lost at g one =
    let also : Given = record { action = action; is_lost = one.is_lost } in
    record {
      given = g.given ++ also ∷ [];
      same = map-append (λ (h : Given). h.action) g.given (also ∷ []) ∙ (ap (λ l. l ++ action ∷ []) g.same ∙ sym (take_next actions i action at));
      wires = wires_one may_fail g.given also g.wires (one.wire, tt);
      told = λ rounds event before. subst Told (gave_behind rounds event g.given also)
          (one.told (rounds ++ record { event = event; effects = g.given } ∷ []) (g.told rounds event before));
      counted = one.counted ∙ (capped_on (lost_begun + lost_of g.given) (one_if one.is_lost) lost_before g.counted
          ∙ ap capped (omega (arith, lost_one g.given also)));
    }

-- an effect was not given
pub gave_part : (may_fail : LinkCall → LinkFault → Type 0) (i : ℕ) (actions : List Action) (action : Action) (Begun Before Told : Option Action → List Round → Type 0) (lost_begun lost_before lost : ℕ) →
    Some action ≡ slice_get actions i → i < length actions → GaveFirst may_fail i actions (Begun None) (Before None) lost_begun lost_before → GaveNone (Before None) (Told (Some action)) lost_before lost →
    (n : ℕ) × (n < length actions) × GaveFirst may_fail n actions (Begun None) (Told (slice_get actions n)) lost_begun lost
gave_part may_fail i actions action Begun Before Told lost_begun lost_before lost at within g none = (
  i,
  within,
  record {
    given = g.given;
    same = g.same;
    wires = g.wires;
    told = λ rounds event before. subst (λ (part : Option Action). Told part (rounds ++ record { event = event; effects = g.given } ∷ [])) at
        (none.told (rounds ++ record { event = event; effects = g.given } ∷ []) (g.told rounds event before));
    counted = none.counted ∙ g.counted;
  },
)
