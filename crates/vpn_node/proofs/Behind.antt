-- A run with one more event at its end.
use Rattle.std.proofs.Common.{◌≡◌, suc, ◌+◌, Bool, List, [], ◌∷◌, ◌++◌, length, refl, ap, arith}
use Rattle.vpn_links.specs.Actions.{Action}
use Rattle.vpn_links.specs.Steps.{Lack}
use Rattle.vpn_links.specs.declared.events.Event.{Event}
use Rattle.vpn_node.specs.Running.{Entry, MayLack, MayRun, after, after_all, outs_at, refused_by, refused_lacking, run}

-- the table after one more event
pub after_one : {T : Type 0} (next : Bool → T → Event → T) (t : T) (entries : List Entry) (entry : Entry) →
    after_all next t (entries ++ entry ∷ []) ≡ after next (after_all next t entries) entry
after_one next t [] entry = refl
after_one next t (e ∷ entries) entry = after_one next (after next t e) entries entry

-- what it does stands behind what those before it do
pub run_one : {T : Type 0} (next : Bool → T → Event → T) (effects : Bool → T → Event → List Action) (t : T) (entries : List Entry) (entry : Entry) →
    run next effects t (entries ++ entry ∷ []) ≡ run next effects t entries ++ outs_at effects (after_all next t entries) entry ∷ []
run_one next effects t [] entry = refl
run_one next effects t (e ∷ entries) entry = ap (λ outs. outs_at effects t e ∷ outs) (run_one next effects (after next t e) entries entry)

-- there lacks what may
pub may_one : {T : Type 0} (next : Bool → T → Event → T) (may_lack : T → Event → Lack → Type 0) (t : T) (entries : List Entry) (entry : Entry) →
    MayRun next may_lack t entries → MayLack may_lack (after_all next t entries) entry.event entry.lack → MayRun next may_lack t (entries ++ entry ∷ [])
may_one next may_lack t [] entry all one = (one, tt)
may_one next may_lack t (e ∷ entries) entry all one = (all.0, may_one next may_lack (after next t e) entries entry all.1 one)

-- what was refused
pub refused_one : {T : Type 0} (next : Bool → T → Event → T) (effects : Bool → T → Event → List Action) (t : T) (entries : List Entry) (entry : Entry) →
    refused_by next effects t (entries ++ entry ∷ []) ≡ refused_by next effects t entries + refused_lacking effects (after_all next t entries) entry.event entry.lack
refused_one next effects t [] entry = omega arith
refused_one next effects t (e ∷ entries) entry = omega (arith, refused_one next effects (after next t e) entries entry)

-- each event has its effects
pub run_length : {T : Type 0} (next : Bool → T → Event → T) (effects : Bool → T → Event → List Action) (t : T) (entries : List Entry) →
    length (run next effects t entries) ≡ length entries
run_length next effects t [] = refl
run_length next effects t (e ∷ entries) = ap suc (run_length next effects (after next t e) entries)
