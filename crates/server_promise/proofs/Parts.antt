-- What lacks at an event of a run, and at its front.
use Rattle.std.proofs.Common.{◌≡◌, Bool, true, false, List, [], ◌∷◌, ◌++◌, refl, ap, sym, ◌∙◌, subst}
use Rattle.std.specs.Prelude.{◌||◌}
use Rattle.std.proofs.lemmas.Bool.{true≢false}
use Rattle.vpn_links.specs.Steps.{Lack, LacksAll, LacksHost, LacksNothing}
use Rattle.vpn_links.specs.declared.events.Event.{Event}
use Rattle.vpn_links.specs.declared.events.Kind.{Kind}
use Rattle.server_table.specs.Courses.{outs}
use Rattle.server_table.specs.Runs.{Entry, MayLack, MayRun, after, after_all, is_free, is_free_kind, is_refusal}
use Rattle.server_table.specs.Step.{is_over, step}
use Rattle.server_table.specs.Table.{Table}

-- of an event behind others
lacks_behind : (t : Table) (before rest : List Entry) (entry : Entry) → MayRun t (before ++ entry ∷ rest) → MayLack (after_all t before) entry.0 entry.1
lacks_behind t [] rest entry may = may.0
lacks_behind t (e ∷ before) rest entry may = lacks_behind (after t e) before rest entry may.1

pub lacks_at : (t : Table) (entries before rest : List Entry) (entry : Entry) → entries ≡ before ++ entry ∷ rest → MayRun t entries → MayLack (after_all t before) entry.0 entry.1
lacks_at t entries before rest entry is may = lacks_behind t before rest entry (subst (MayRun t) is may)

-- of the events in front
lacks_before : (t : Table) (front rest : List Entry) → MayRun t (front ++ rest) → MayRun t front
lacks_before t [] rest may = tt
lacks_before t (e ∷ front) rest may = (may.0, lacks_before (after t e) front rest may.1)

pub lacks_front : (t : Table) (entries front rest : List Entry) → entries ≡ front ++ rest → MayRun t entries → MayRun t front
lacks_front t entries front rest is may = lacks_before t front rest (subst (MayRun t) is may)

or_true : (b c : Bool) → (b || true || c) ≡ true
or_true true c = refl
or_true false c = refl

-- an event of a kind that takes no memory never lacks it as a whole
free_so : (t : Table) (event : Event) (kind : Kind) → event.kind ≡ kind → is_free_kind kind ≡ true → is_free t event ≡ true
unfolding is_free
free_so t event kind is free =
    ap (λ (k : Kind). is_over t || is_free_kind k || is_refusal (outs (step false t event))) is
    ∙ (ap (λ (b : Bool). is_over t || b || is_refusal (outs (step false t event))) free ∙ or_true (is_over t) (is_refusal (outs (step false t event))))

pub never_lacks : (t : Table) (event : Event) (kind : Kind) → event.kind ≡ kind → is_free_kind kind ≡ true → MayLack t event LacksAll → ⊥
never_lacks t event kind is free may = true≢false (sym (free_so t event kind is free) ∙ may)

-- by what lacks at an event
pub by_lack : (P : Lack → Type 0) → P LacksNothing → P LacksAll → P LacksHost → (lack : Lack) → P lack
by_lack P nothing all host LacksNothing = nothing
by_lack P nothing all host LacksAll = all
by_lack P nothing all host LacksHost = host
