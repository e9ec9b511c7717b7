-- The packets that wait, step by step.
use Rattle.std.proofs.Common.{◌≡◌, ℕ, Bool, true, false, List, [], ◌∷◌, ◌++◌, length, map, drop, None, refl, sym, ap, ap₂, ◌∙◌, subst, append-nil, append_assoc}
use Rattle.std.specs.List.{AllByRecursion, cons_option}
use Rattle.vpn_base.specs.declared.address.Addr.{Addr}
use Rattle.vpn_links.specs.Actions.{Action, Ask, Configure, Device, EngineClose, EngineOpen, EnginePut, EngineWrite, Report, Say, Stop, Wire, on_wire}
use Rattle.vpn_links.specs.declared.events.Event.{Event}
use Rattle.vpn_links.specs.declared.events.Kind.{Kind}
use Rattle.vpn_links.specs.declared.events.Kind.TheVariants.{Datagram, EngineText, EnginePlain, EngineUp, EngineDown, DeviceIn, DeviceReady, File, Line, Tick, Halt}
use Rattle.vpn_links.specs.Steps.{Lack, LacksAll, LacksHost, LacksNothing}
use Rattle.server_table.specs.Table.{Table}
use Rattle.server_table.specs.Courses.{Course, Staged, outs}
use Rattle.server_table.specs.InnerPackets.{dequeued, device_ready}
use Rattle.server_table.specs.Runs.{Entry, after, after_all, after_lacking, outs_at, outs_lacking}
use Rattle.server_table.specs.Step.{came, course_begun, course_of, is_over, step}
use Rattle.server_laws.specs.HandedOn.{Brings, BringsNone, BringsOne, DoesLast, GoesOn, IsDealtWith, IsQueued, IsQuiet, IsReported, IsSealed, IsSealedPing, IsSealedTo, carrying}
use Rattle.server_laws.specs.Waiting.{all_appended, all_given, appended, given, given_by}
use Rattle.server_laws.specs.WellKept.{IsWellKept}
use Rattle.server_laws.proofs.ClosedSteps.{tick_course_kept}
use Rattle.server_laws.proofs.Dealing.{device_came_dealt}
use Rattle.server_laws.proofs.Everything.{came_quietly}
use Rattle.server_laws.proofs.Quiet.{Quietly, Ticking, asides_quiet, given_append, none_given, quiet_closed, staged_given, ticking_closed, ticking_seals}
use Rattle.server_laws.proofs.Steps.{begun_about, by_over, came_brings, good_begun, step_goes}
use Rattle.server_laws.proofs.Verdicts.{device_not_to_device}

-- ---- what is appended

behind : (xs ys : List (List ℕ)) → drop (length xs) (xs ++ ys) ≡ ys
behind [] ys = refl
behind (x ∷ xs) ys = behind xs ys

appended_is : (queue later more : List (List ℕ)) → later ≡ queue ++ more → queue ++ drop (length queue) later ≡ later
appended_is queue later more is =
    ap (λ (later : List (List ℕ)). queue ++ drop (length queue) later) is
    ∙ ap (λ (more : List (List ℕ)). queue ++ more) (behind queue more) ∙ sym is

-- where the queue stays
appended_none : (t : Table) (kind : Kind) (later : Table) → later.queue ≡ t.queue → t.queue ++ appended t kind later ≡ later.queue
appended_none t (Datagram from bytes) later same = appended_is t.queue later.queue [] (same ∙ sym (append-nil t.queue))
appended_none t (EngineText conn bytes) later same = append-nil t.queue ∙ sym same
appended_none t (EnginePlain conn bytes) later same = append-nil t.queue ∙ sym same
appended_none t (EngineUp conn name) later same = append-nil t.queue ∙ sym same
appended_none t (EngineDown conn) later same = append-nil t.queue ∙ sym same
appended_none t (DeviceIn bytes) later same = append-nil t.queue ∙ sym same
appended_none t DeviceReady later same = append-nil t.queue ∙ sym same
appended_none t (File id answer) later same = append-nil t.queue ∙ sym same
appended_none t (Line bytes) later same = append-nil t.queue ∙ sym same
appended_none t Tick later same = append-nil t.queue ∙ sym same
appended_none t Halt later same = append-nil t.queue ∙ sym same

-- ---- what is given

no_effects_given : (c : Course) → given c.effects ≡ [] → given (outs c) ≡ []
no_effects_given c none =
    given_append c.effects (map (λ (s : Staged). on_wire s.datagram) c.staged)
    ∙ ap₂ (λ (xs ys : List (List ℕ)). xs ++ ys) none (staged_given c.staged)

last_given : (last : List Action) (c : Course) → given last ≡ [] → DoesLast last c → given (outs c) ≡ []
last_given last c none does =
    ap (λ (actions : List Action). given actions) does.all ∙ given_append does.asides last
    ∙ ap₂ (λ (xs ys : List (List ℕ)). xs ++ ys) (none_given does.asides (asides_quiet does.asides does.are_asides)) none

sealed_given : (t later : Table) (n : ℕ) (inner : List ℕ) (action : Action) → IsSealedTo t later n inner action → given (action ∷ []) ≡ []
sealed_given t later n inner action sealed = ap (λ (action : Action). given (action ∷ [])) sealed.is_packet

given_carrying : (xs : List Action) → given xs ≡ given (carrying xs)
given_carrying [] = refl
given_carrying (Wire to bytes ∷ xs) = given_carrying xs
given_carrying (Device packet ∷ xs) = ap (λ (packets : List (List ℕ)). packet ∷ packets) (given_carrying xs)
given_carrying (EngineOpen conn role ∷ xs) = given_carrying xs
given_carrying (EnginePut conn bytes ∷ xs) = given_carrying xs
given_carrying (EngineWrite conn bytes ∷ xs) = given_carrying xs
given_carrying (EngineClose conn ∷ xs) = given_carrying xs
given_carrying (Configure address len gateway routes rest ∷ xs) = given_carrying xs
given_carrying (Ask id name ∷ xs) = given_carrying xs
given_carrying (Say bytes ∷ xs) = given_carrying xs
given_carrying (Report note ∷ xs) = given_carrying xs
given_carrying (Stop ∷ xs) = given_carrying xs

pings_given : (xs : List Action) → AllByRecursion IsSealedPing xs → given xs ≡ []
pings_given [] all = refl
pings_given (x ∷ xs) all =
    let first = all.0 in
    ap (λ (action : Action). cons_option (given_by action) (given xs)) first.is_packet ∙ pings_given xs all.1

-- ---- one step

-- what waited, and then what is appended, is what is given, and then what waits
abbrev pub Balances : Table → Kind → Course → Type 0
Balances t kind c = t.queue ++ appended t kind c.table ≡ given (outs c) ++ c.table.queue

stays_balanced : (t : Table) (kind : Kind) (c : Course) → c.table.queue ≡ t.queue → given (outs c) ≡ [] → Balances t kind c
stays_balanced t kind c same none = appended_none t kind c.table same ∙ ap (λ (packets : List (List ℕ)). packets ++ c.table.queue) (sym none)

brings_balanced : (t : Table) (event : Event) (from : Addr) (bytes : List ℕ) (c : Course) → BringsOne t event c → Balances t (Datagram from bytes) c
brings_balanced t event from bytes c (BringsNone same none) = stays_balanced t (Datagram from bytes) c same (no_effects_given c (none_given c.effects none))
brings_balanced t event from bytes c (Brings n k id inner accepted owned (IsSealed target action v sealed same does)) =
    stays_balanced t (Datagram from bytes) c same (last_given (action ∷ []) c (sealed_given t c.table target inner action sealed) does)
brings_balanced t event from bytes c (Brings n k id inner accepted owned (IsQueued v more does)) =
    appended_is t.queue c.table.queue (inner ∷ []) more ∙ ap (λ (packets : List (List ℕ)). packets ++ c.table.queue) (sym (last_given [] c refl does))

device_balanced : (t : Table) (bytes : List ℕ) (c : Course) → IsDealtWith t None bytes c → Balances t (DeviceIn bytes) c
device_balanced t bytes c (GoesOn (IsQueued v more does)) = absurd (device_not_to_device t.routes.rows t.settings.net t.settings.between bytes v)
device_balanced t bytes c (GoesOn (IsSealed target action v sealed same does)) =
    stays_balanced t (DeviceIn bytes) c same (last_given (action ∷ []) c (sealed_given t c.table target bytes action sealed) does)
device_balanced t bytes c (IsReported note why same does) = stays_balanced t (DeviceIn bytes) c same (last_given (Report note ∷ []) c refl does)

ready_balanced : (t : Table) (event : Event) (queue : List (List ℕ)) → t.queue ≡ queue → Balances t DeviceReady (dequeued (course_begun t event) queue)
ready_balanced t event [] same = append-nil t.queue
ready_balanced t event (packet ∷ rest) same = append-nil t.queue ∙ same

pub quiet_came : (lacks : Bool) (t : Table) (event : Event) (kind : Kind) → IsQuiet kind → Quietly t (came lacks event.draw kind (course_begun t event))
quiet_came lacks t event kind quiet =
    came_quietly (quiet_closed t) lacks event.draw kind (course_begun t event) quiet (record { settings_same = refl; queue_same = refl; none = refl })

quiet_balanced : (lacks : Bool) (t : Table) (event : Event) (kind : Kind) → IsQuiet kind → Balances t kind (came lacks event.draw kind (course_begun t event))
quiet_balanced lacks t event kind quiet =
    let c = came lacks event.draw kind (course_begun t event) in
    let q = quiet_came lacks t event kind quiet in
    stays_balanced t kind c q.queue_same (no_effects_given c (none_given c.effects q.none))

module _ (t : Table) (event : Event) (kept : IsWellKept t) where
  pub tick_came : (lacks : Bool) → Ticking t (came lacks event.draw Tick (course_begun t event))
  unfolding came
  tick_came lacks =
      tick_course_kept (ticking_closed t) (ticking_seals t) (course_begun t event) (good_begun t event kept, record { queue_same = refl; pings = tt })

  pub device_came : (lacks : Bool) (bytes : List ℕ) → IsDealtWith t None bytes (came lacks event.draw (DeviceIn bytes) (course_begun t event))
  unfolding came
  device_came lacks bytes = device_came_dealt bytes (course_begun t event) (begun_about t event kept)

  ready_came : (lacks : Bool) → Balances t DeviceReady (came lacks event.draw DeviceReady (course_begun t event))
  unfolding came device_ready
  ready_came lacks = ready_balanced t event t.queue refl

  tick_balanced : (lacks : Bool) → Balances t Tick (came lacks event.draw Tick (course_begun t event))
  tick_balanced lacks =
      let c = came lacks event.draw Tick (course_begun t event) in
      let k = (tick_came lacks).1 in
      stays_balanced t Tick c k.queue_same (no_effects_given c (given_carrying c.effects ∙ pings_given (carrying c.effects) k.pings))

  came_balanced : (lacks : Bool) (kind : Kind) → is_over t ≡ false → event.kind ≡ kind → Balances t kind (came lacks event.draw kind (course_begun t event))
  came_balanced lacks (Datagram from bytes) goes is =
      brings_balanced t event from bytes (came lacks event.draw (Datagram from bytes) (course_begun t event)) (came_brings t event kept goes lacks from bytes is)
  came_balanced lacks (DeviceIn bytes) goes is = device_balanced t bytes (came lacks event.draw (DeviceIn bytes) (course_begun t event)) (device_came lacks bytes)
  came_balanced lacks DeviceReady goes is = ready_came lacks
  came_balanced lacks Tick goes is = tick_balanced lacks
  came_balanced lacks (EngineText conn bytes) goes is = quiet_balanced lacks t event (EngineText conn bytes) tt
  came_balanced lacks (EnginePlain conn bytes) goes is = quiet_balanced lacks t event (EnginePlain conn bytes) tt
  came_balanced lacks (EngineUp conn name) goes is = quiet_balanced lacks t event (EngineUp conn name) tt
  came_balanced lacks (EngineDown conn) goes is = quiet_balanced lacks t event (EngineDown conn) tt
  came_balanced lacks (File id answer) goes is = quiet_balanced lacks t event (File id answer) tt
  came_balanced lacks (Line bytes) goes is = quiet_balanced lacks t event (Line bytes) tt
  came_balanced lacks Halt goes is = quiet_balanced lacks t event Halt tt

  step_balanced : (lacks : Bool) → Balances t event.kind (step lacks t event)
  step_balanced lacks =
      by_over (Balances t event.kind) lacks t event (stays_balanced t event.kind (course_of t) refl refl) (λ goes. came_balanced lacks event.kind goes refl)

  -- the same for an event of which something may lack
  lacking_balanced : (lack : Lack) → t.queue ++ appended t event.kind (after_lacking t event lack) ≡ given (outs_lacking t event lack) ++ (after_lacking t event lack).queue
  lacking_balanced LacksNothing = step_balanced false
  lacking_balanced LacksAll = appended_none t event.kind t refl
  lacking_balanced LacksHost = step_balanced true

-- ---- single steps

pub device_step : (t : Table) (event : Event) → IsWellKept t → (lacks : Bool) (inner : List ℕ) → is_over t ≡ false → event.kind ≡ DeviceIn inner →
    IsDealtWith t None inner (step lacks t event)
device_step t event kept lacks inner goes is =
    subst (IsDealtWith t None inner) (sym (step_goes lacks t event goes ∙ ap (λ (kind : Kind). came lacks event.draw kind (course_begun t event)) is))
    (device_came t event kept lacks inner)

pub quiet_step : (lacks : Bool) (t : Table) (event : Event) → IsQuiet event.kind →
    ((step lacks t event).table.queue ≡ t.queue) × (carrying (step lacks t event).effects ≡ [])
quiet_step lacks t event quiet =
    by_over (λ c. (c.table.queue ≡ t.queue) × (carrying c.effects ≡ [])) lacks t event (refl, refl)
    (λ goes. let q = quiet_came lacks t event event.kind quiet in (q.queue_same, q.none))

pub tick_step : (t : Table) (event : Event) → IsWellKept t → (lacks : Bool) → event.kind ≡ Tick →
    ((step lacks t event).table.queue ≡ t.queue) × AllByRecursion IsSealedPing (carrying (step lacks t event).effects)
tick_step t event kept lacks is =
    by_over (λ c. (c.table.queue ≡ t.queue) × AllByRecursion IsSealedPing (carrying c.effects)) lacks t event (refl, tt)
    (λ goes. subst (λ (kind : Kind). let c = came lacks event.draw kind (course_begun t event) in (c.table.queue ≡ t.queue) × AllByRecursion IsSealedPing (carrying c.effects)) (sym is)
    (let k = (tick_came t event kept lacks).1 in (k.queue_same, k.pings)))

-- ---- a run

run_step : (given rest later queue appended more : List (List ℕ)) → queue ++ appended ≡ given ++ later → rest ≡ later ++ more → given ++ rest ≡ queue ++ (appended ++ more)
run_step given rest later queue appended more now then =
    ap (λ (rest : List (List ℕ)). given ++ rest) then ∙ sym (append_assoc given later more)
    ∙ ap (λ (front : List (List ℕ)). front ++ more) (sym now) ∙ append_assoc queue appended more

-- what was given, and then the queue, is what waited at first, and then what was appended
pub run_balanced : ((t : Table) (entry : Entry) → IsWellKept t → IsWellKept (after t entry)) → (entries : List Entry) (t : Table) → IsWellKept t →
    all_given t entries ++ (after_all t entries).queue ≡ t.queue ++ all_appended t entries
run_balanced keeps [] t kept = sym (append-nil t.queue)
run_balanced keeps (entry ∷ entries) t kept =
    let u = after t entry in
    append_assoc (given (outs_at t entry)) (all_given u entries) (after_all u entries).queue
    ∙ run_step (given (outs_at t entry)) (all_given u entries ++ (after_all u entries).queue) u.queue t.queue (appended t entry.0.kind u) (all_appended u entries)
    (lacking_balanced t entry.0 kept entry.1) (run_balanced keeps entries u (keeps t entry kept))
