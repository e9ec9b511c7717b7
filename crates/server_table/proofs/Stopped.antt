-- A server that takes no events any more.
use Rattle.std.proofs.Common.{◌≡◌, Bool, true, false, List, [], ◌∷◌, map, refl, sym, ap, ap₂, ◌∙◌}
use Rattle.std.specs.Prelude.{◌||◌}
use Rattle.std.specs.List.{list_any}
use Rattle.std.proofs.lemmas.Bool.{false≢true, true≢false}
use Rattle.vpn_links.specs.Actions.{Action}
use Rattle.vpn_links.specs.declared.events.Event.{Event}
use Rattle.vpn_links.specs.declared.events.Kind.{Kind}
use Rattle.vpn_links.specs.declared.events.Kind.TheVariants.{Halt}
use Rattle.server_table.specs.Table.{Table}
use Rattle.server_table.specs.Courses.{Course, outs}
use Rattle.server_table.specs.Step.{came, course_begun, course_of, halted, is_over, step, step_if}
use Rattle.server_table.specs.Runs.{Entry, MayLack, MayRun, after, after_all, after_lacking, is_free, is_free_kind, is_not_learned, is_refusal, needs_host, outs_lacking, run}
use Rattle.vpn_links.specs.Steps.{Lack, LacksAll, LacksHost, LacksNothing}

-- it stays as it is
pub stopped_step : (lacks : Bool) (t : Table) (event : Event) → is_over t ≡ true → step lacks t event ≡ course_of t
unfolding step
stopped_step lacks t event is = ap (step_if lacks t event) is

-- the end stops it
pub halt_stops : (lacks : Bool) (t : Table) (event : Event) → is_over t ≡ false → event.kind ≡ Halt → (step lacks t event).table.is_stopped ≡ true
unfolding step came
halt_stops lacks t event goes is =
    ap (λ (b : Bool). (step_if lacks t event b).table.is_stopped) goes
    ∙ ap (λ (kind : Kind). (came lacks event.draw kind (course_begun t event)).table.is_stopped) is

-- and does nothing else
pub halted_step : (lacks : Bool) (t : Table) (event : Event) → is_over t ≡ false → event.kind ≡ Halt → step lacks t event ≡ halted (course_begun t event)
unfolding step came
halted_step lacks t event goes is =
    ap (λ (b : Bool). step_if lacks t event b) goes
    ∙ ap (λ (kind : Kind). came lacks event.draw kind (course_begun t event)) is

pub stopped_after : (t : Table) (event : Event) (lack : Lack) → is_over t ≡ true → after_lacking t event lack ≡ t
stopped_after t event LacksNothing is = ap (λ (c : Course). c.table) (stopped_step false t event is)
stopped_after t event LacksAll is = refl
stopped_after t event LacksHost is = ap (λ (c : Course). c.table) (stopped_step true t event is)

pub stopped_all : (entries : List Entry) (t : Table) → is_over t ≡ true → after_all t entries ≡ t
stopped_all [] t is = refl
stopped_all (entry ∷ entries) t is = ap (λ (u : Table). after_all u entries) (stopped_after t entry.0 entry.1 is) ∙ stopped_all entries t is

-- it takes each event without memory
free : (t : Table) (event : Event) → is_over t ≡ true → is_free t event ≡ true
unfolding is_free
free t event is = ap (λ (b : Bool). b || is_free_kind event.kind || is_refusal (outs (step false t event))) is

no_host : (t : Table) (event : Event) → is_over t ≡ true → needs_host t event ≡ false
unfolding needs_host
no_host t event is = ap (λ (c : Course). list_any is_not_learned (outs c)) (stopped_step true t event is)

stopped_outs : (t : Table) (event : Event) (lack : Lack) → is_over t ≡ true → MayLack t event lack → outs_lacking t event lack ≡ []
stopped_outs t event LacksNothing is may = ap (λ (c : Course). outs c) (stopped_step false t event is)
stopped_outs t event LacksAll is may = absurd (true≢false (sym (free t event is) ∙ may))
stopped_outs t event LacksHost is may = absurd (false≢true (sym (no_host t event is) ∙ may))

pub stopped_run : (entries : List Entry) (t : Table) → is_over t ≡ true → MayRun t entries → run t entries ≡ map (λ (entry : Entry). []) entries
stopped_run [] t is may = refl
stopped_run (entry ∷ entries) t is may =
    ap₂ (λ (done : List Action) (rest : List (List Action)). done ∷ rest) (stopped_outs t entry.0 entry.1 is may.0)
    (stopped_run entries (after t entry) (ap is_over (stopped_after t entry.0 entry.1 is) ∙ is) may.1)
