-- How far a step has come, as it begins and after one effect more.
use Rattle.std.proofs.Common.{◌≡◌, ℕ, ◌+◌, ◌-◌, ◌^◌, ◌≤◌, Bool, true, List, [], ◌∷◌, ◌++◌, append-nil, length, nat_lt, None, refl, sym, ap, subst, ◌∙◌, arith}
use Rattle.std.specs.List.{AllByRecursion}
use Rattle.std.proofs.lemmas.List.{append_assoc}
use Rattle.vpn_base.specs.declared.names.Cid.{Cid}
use Rattle.vpn_base.specs.declared.names.Moment.{Moment}
use Rattle.vpn_links.specs.Actions.{Action, Contents, Holds, Stop}
use Rattle.vpn_links.specs.declared.events.Event.{Event}
use Rattle.client_table.specs.Entries.{Entry}
use Rattle.client_table.specs.Tables.{entries_of}
use Rattle.peer_table.specs.Peer.{Peer}
use Rattle.server_table.specs.Courses.{Course, did}
use Rattle.server_table.specs.Step.{course_begun, halted, line_came, line_said, moment_of}
use Rattle.server_table.specs.Table.{Table}
use Rattle.server_state.specs.declared.client.ClientState.{ClientState}
use Rattle.server_state.specs.declared.state.ServerCore.{ServerCore}
use Rattle.server_state.specs.Core.{CoreStands, CourseStands, GoesOn, IsSound, IsSoundAhead}

module _ {S : Type 0} (means : S → Peer → Type 0) (before : List Action) (core : ServerCore S) where
  -- one effect more
  pub did_stands : (old new : Contents) (action : Action) (c : Course) → CourseStands means before core old c → Holds new (old.effects ++ action ∷ []) old.staged
      → CourseStands means before core new (did action c)
  did_stands old new action c h is = record {
    table = h.table;
    outbox = (is.0 ∙ ap (λ (all : List Action). all ++ action ∷ []) h.outbox.0 ∙ append_assoc before c.effects (action ∷ []), is.1 ∙ h.outbox.1);
    in_turn = h.in_turn;
  }

  -- a line that is not empty
  pub line_stands : (out : Contents) (c : Course) (line : List ℕ) (long : Bool) → (0 ≡ length line → ⊥) → nat_lt 256 (length line) ≡ long
      → CourseStands means before core out (line_said c long) → CourseStands means before core out (line_came line c)
  line_stands out c [] long some is h = absurd (some refl)
  line_stands out c (b ∷ line) long some is h = subst (λ long. CourseStands means before core out (line_said c long)) (sym is) h

  pub empty_stands : (out : Contents) (c : Course) (line : List ℕ) → 0 ≡ length line → CourseStands means before core out c
      → CourseStands means before core out (line_came line c)
  empty_stands out c [] none h = h
  empty_stands out c (b ∷ line) none h = cc

  -- a step begins
  pub step_begun : (t : Table) (event : Event) (out : Contents) → CoreStands means core t → (moment : Moment) → moment.0 ≡ moment_of t event → (turn : Cid)
      → out.effects ≡ before → out.staged ≡ []
      → CourseStands means before (record core { moment = moment; events = core.events + 1; last_taken = None; turn = turn; mark = 0 }) out (course_begun t event)
  step_begun t event out h moment is turn effects staged = record {
    table = record {
      settings = h.settings;
      key = h.key;
      clients = h.clients;
      admitted = h.admitted;
      most = h.most;
      routes = h.routes;
      pool = h.pool;
      queue = h.queue;
      moment = is;
      connections = h.connections;
      bytes_in = h.bytes_in;
      bytes_out = h.bytes_out;
      count_interval = h.count_interval;
      counted_at = h.counted_at;
      is_stopped = h.is_stopped;
      events = ap (λ (n : ℕ). n + 1) h.events;
      last_taken = refl;
    };
    outbox = (effects ∙ sym (append-nil before), staged);
    in_turn = record { earlier = []; own = []; all = refl; marked = refl; before = tt; behind = tt };
  }

  -- the server is stopped
  pub stopped : (t : Table) → CoreStands means core t → CoreStands means (record core { is_stopped = true }) (record t { is_stopped = true })
  stopped t h = record {
    settings = h.settings;
    key = h.key;
    clients = h.clients;
    admitted = h.admitted;
    most = h.most;
    routes = h.routes;
    pool = h.pool;
    queue = h.queue;
    moment = h.moment;
    connections = h.connections;
    bytes_in = h.bytes_in;
    bytes_out = h.bytes_out;
    count_interval = h.count_interval;
    counted_at = h.counted_at;
    is_stopped = refl;
    events = h.events;
    last_taken = h.last_taken;
  }

pub halted_stands : {S : Type 0} (means : S → Peer → Type 0) (before : List Action) (core : ServerCore S) (old new : Contents) (c : Course)
    → CourseStands means before core old c → Holds new (old.effects ++ Stop ∷ []) old.staged
    → CourseStands means before (record core { is_stopped = true }) new (halted c)
halted_stands means before core old new c h is =
    did_stands means before (record core { is_stopped = true }) old new Stop (record c { table = record c.table { is_stopped = true } })
    (record { table = stopped means before core c.table h.table; outbox = h.outbox; in_turn = h.in_turn }) is

-- ---- what holds of every core

all_later : {S : Type 0} (goes_on : S → Type 0) (count since : S → ℕ) (most was is : ℕ) → was ≤ is → (es : List (Entry (ClientState S)))
    → AllByRecursion (GoesOn goes_on count since most was) es → AllByRecursion (GoesOn goes_on count since most is) es
all_later goes_on count since most was is later [] all = tt
all_later goes_on count since most was is later (e ∷ es) all =
    (record { session = all.0.session; few = all.0.few; past = omega (arith, later, all.0.past) }, all_later goes_on count since most was is later es all.1)

one_before : (n : ℕ) → (n + 1) - 1 ≡ n
one_before n = grind arith

pub sound_ahead : {S : Type 0} (goes_on : S → Type 0) (count since : S → ℕ) (core : ServerCore S) → IsSound goes_on count since core → core.events + 1 ≤ 2 ^ 48
    → (moment : Moment) → core.moment.0 ≤ moment.0 → moment.0 ≤ 2 ^ 52 → (turn : Cid)
    → IsSoundAhead goes_on count since (record core { moment = moment; events = core.events + 1; last_taken = None; turn = turn; mark = 0 })
sound_ahead {S = S} goes_on count since core h few moment later most turn =
    let begun = λ (n : ℕ). record core { moment = moment; events = n; last_taken = None; turn = turn; mark = 0 } in
    subst (λ (n : ℕ). IsSound goes_on count since (begun n)) (sym (one_before core.events)) (record {
      sessions = all_later goes_on count since (core.events + 1) core.moment.0 moment.0 later (entries_of core.clients) h.sessions;
      most = h.most;
      admitted = h.admitted;
      connections = h.connections;
      timers = h.timers;
      no_counts = h.no_counts;
      late = most;
    })
