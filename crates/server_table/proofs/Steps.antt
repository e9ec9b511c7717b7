-- What a step keeps, and what a run keeps.
use Rattle.std.proofs.Common.{◌≡◌, ◌≤◌, ℕ, suc, ◌+◌, ◌^◌, nat_lt, Bool, true, false, List, [], ◌∷◌, length, None, refl, sym, ap, ◌∙◌, subst, inl, inr, arith, Result, Ok, Err}
use Rattle.std.specs.Prelude.{◌⊎◌, ◌||◌, codes, nat_le}
use Rattle.std.proofs.lemmas.Bool.{false≢true}
use Rattle.vpn_base.specs.declared.names.Draw.{Draw}
use Rattle.vpn_base.specs.declared.names.Malformed.{Malformed}
use Rattle.vpn_links.specs.Actions.{Report, Say, stops}
use Rattle.vpn_links.specs.declared.events.Event.{Event}
use Rattle.vpn_links.specs.declared.events.Kind.{Kind}
use Rattle.vpn_links.specs.declared.events.Kind.TheVariants.{Datagram, EngineText, EnginePlain, EngineUp, EngineDown, DeviceIn, DeviceReady, File, Line, Tick, Halt}
use Rattle.vpn_links.specs.declared.notes.Note.TheVariants as notes
use Rattle.opcode_codec.specs.Packet.{PacketForm, Wrapped, Inner, packet_of}
use Rattle.inner_verdict.specs.declared.Verdict.{Verdict}
use Rattle.inner_verdict.specs.declared.Verdict.TheVariants.{NotIp, TooLong, Multicast, BadSource, ToClient, ToDevice, NoRoute}
use Rattle.inner_verdict.specs.Verdict.{verdict}
use Rattle.ovpn_config.specs.declared.settings.Settings.{Settings}
use Rattle.server_table.specs.Table.{Client, Table, table_begun}
use Rattle.server_table.specs.Courses.{Course, outs}
use Rattle.server_table.specs.ControlDatagrams.{first_of}
use Rattle.server_table.specs.DataDatagrams.{FromWire}
use Rattle.server_table.specs.Numbers.{AreStill}
use Rattle.server_table.specs.Refusals.{is_refused}
use Rattle.server_table.specs.Runs.{Entry, after, after_all, after_lacking}
use Rattle.vpn_links.specs.Steps.{Lack, LacksAll, LacksHost, LacksNothing}
use Rattle.server_table.specs.Sound.{IsSound}
use Rattle.server_table.specs.Step.{came, course_begun, datagram_as, device_came, device_passed, halted, is_over, line_came, line_said, moment_of, step, step_if}
use Rattle.server_table.specs.internal.CallsKeepOrder.{CallsKeepOrder}
use Rattle.server_table.proofs.Kept.{Kept, parts_sound, whole_sound}
use Rattle.server_table.proofs.Keeps.{did_kept}
use Rattle.server_table.proofs.KeptData.{data_settled}
use Rattle.server_table.proofs.KeptEngine.{down_settled, engine_settled, file_settled}
use Rattle.server_table.proofs.KeptPackets.{device_ready_kept, sealed_kept}
use Rattle.server_table.proofs.KeptTime.{tick_kept}
use Rattle.server_table.proofs.Admission.{control_finished}
use Rattle.server_table.proofs.Settled.{Finished, Settled, kept_settled, onward_outs, refusal_settled}
use Rattle.server_table.proofs.Places.{none_some}
use Rattle.server_table.proofs.Stopped.{halted_step, stopped_step}

module _ (calls : CallsKeepOrder) {a : Table} {k : ℕ} where
  datagram_finished : (d : FromWire) (draw : Draw) (c : Course) (p : Result PacketForm Malformed) → c.table ≡ a → Kept a k c → Finished a k (datagram_as d draw c p)
  datagram_finished d draw c (Err e) same is = inl (refusal_settled (notes.Malformed e (first_of d.bytes)) c same is)
  datagram_finished d draw c (Ok (Wrapped op kid sid)) same is = control_finished calls d draw op c same is
  datagram_finished d draw c (Ok (Inner f)) same is = inl (data_settled calls d f c same is)

  passed_kept : (inner : List ℕ) (c : Course) (v : Verdict) → Kept a k c → Kept a k (device_passed inner c v)
  passed_kept inner c NotIp is = did_kept (Report (notes.NotIp None)) c refl is
  passed_kept inner c TooLong is = did_kept (Report (notes.TooLong None)) c refl is
  passed_kept inner c Multicast is = did_kept (Report (notes.Multicast None)) c refl is
  passed_kept inner c (BadSource owner) is = is
  passed_kept inner c (ToClient target) is = sealed_kept calls target.0 inner c is
  passed_kept inner c ToDevice is = is
  passed_kept inner c NoRoute is = did_kept (Report notes.NoRoute) c refl is

  device_kept : (inner : List ℕ) (c : Course) → Kept a k c → Kept a k (device_came inner c)
  unfolding device_came
  device_kept inner c is = passed_kept inner c (verdict c.table.routes.rows c.table.settings.net c.table.settings.between None inner) is

  said_kept : (c : Course) (b : Bool) → Kept a k c → Kept a k (line_said c b)
  said_kept c true is = did_kept (Say (codes "ERROR: command too long")) c refl is
  said_kept c false is = did_kept (Say (codes "ERROR: unknown command")) c refl is

  line_kept : (bytes : List ℕ) (c : Course) → Kept a k c → Kept a k (line_came bytes c)
  line_kept [] c is = is
  line_kept (b ∷ bytes) c is = said_kept c (nat_lt 256 (length (b ∷ bytes))) is

  -- any kind of event but the end
  came_finished : (lacks : Bool) (draw : Draw) (kind : Kind) (c : Course) → (kind ≡ Halt → ⊥) → c.table ≡ a → Kept a k c → Finished a k (came lacks draw kind c)
  unfolding came
  came_finished lacks draw (Datagram from bytes) c other same is = datagram_finished (record { from = from; bytes = bytes; lacks = lacks }) draw c (packet_of bytes) same is
  came_finished lacks draw (EngineText conn bytes) c other same is = inl (engine_settled calls draw conn (EngineText conn bytes) c same is)
  came_finished lacks draw (EnginePlain conn bytes) c other same is = inl (engine_settled calls draw conn (EnginePlain conn bytes) c same is)
  came_finished lacks draw (EngineUp conn name) c other same is = inl (engine_settled calls draw conn (EngineUp conn name) c same is)
  came_finished lacks draw (EngineDown conn) c other same is = inl (down_settled calls conn c same is)
  came_finished lacks draw (DeviceIn bytes) c other same is = inl (kept_settled (came lacks draw (DeviceIn bytes) c) (device_kept bytes c is))
  came_finished lacks draw DeviceReady c other same is = inl (kept_settled (came lacks draw DeviceReady c) (device_ready_kept c is))
  came_finished lacks draw (File id answer) c other same is = inl (file_settled calls draw id answer c same is)
  came_finished lacks draw (Line bytes) c other same is = inl (kept_settled (came lacks draw (Line bytes) c) (line_kept bytes c is))
  came_finished lacks draw Tick c other same is = inl (kept_settled (came lacks draw Tick c) (tick_kept calls c is))
  came_finished lacks draw Halt c other same is = absurd (other refl)

still_same : (clients : List Client) → AreStill clients clients
still_same clients n x there = record { client = x; there = there; peer_id = refl; remote = λ sid is. is; here = λ is. is }

still_then : (clients later last : List Client) → AreStill clients later → AreStill later last → AreStill clients last
still_then clients later last first second n x there =
    let s = first n x there in
    let u = second n s.client s.there in
    record {
      client = u.client;
      there = u.there;
      peer_id = u.peer_id ∙ s.peer_id;
      remote = λ sid is. u.remote sid (s.remote sid is);
      here = λ is. s.here (u.here is);
    }

-- ---- one step

-- the table as a step finds it
abbrev begun : Table → Event → Table
begun t event = (course_begun t event).table

begun_kept : (t : Table) (event : Event) → Kept (begun t event) (length t.clients) (course_begun t event)
begun_kept t event = record {
  steady = refl;
  count = refl;
  sound = parts_sound (begun t event);
  still = λ s. still_same t.clients;
  plain = refl;
}

begun_sound : (t : Table) (event : Event) → IsSound t → IsSound (begun t event)
begun_sound t event s = record { moment = omega arith; orderly = s.orderly; peer_ids = s.peer_ids; sessions = s.sessions; rows = s.rows }

-- the table to which nothing has come
pub begun_table_sound : (settings : Settings) (key : List ℕ) → IsSound (table_begun settings key)
begun_table_sound settings key = record {
  moment = omega arith;
  orderly = λ n x there. absurd (none_some there);
  peer_ids = λ peer_id m n x y there. absurd (none_some there);
  sessions = λ from sid m n x y there. absurd (none_some there);
  rows = tt;
}

-- a step of a server that takes events: its table
pub record IsTaken (t : Table) (event : Event) (later : Table) : Type 0 where
  pub moment : later.moment ≡ moment_of t event
  pub stopped : (event.kind ≡ Halt → ⊥) → later.is_stopped ≡ t.is_stopped
  pub events : later.events ≡ t.events + 1
  pub at_least : length t.clients ≤ length later.clients
  pub at_most : length later.clients ≤ length t.clients + 1
  pub sound : IsSound t → IsSound later
  pub still : IsSound t → AreStill t.clients later.clients

settled_taken : (t : Table) (event : Event) (c : Course) (k : ℕ) → length t.clients ≤ k → k ≤ length t.clients + 1 → Settled (begun t event) k c → IsTaken t event c.table
settled_taken t event c k from to is =
    let kept = is.kept in
    let count = kept.count in
    record {
      moment = ap (λ (p : ℕ × (Bool × ℕ)). p.0) kept.steady;
      stopped = λ other. ap (λ (p : ℕ × (Bool × ℕ)). p.1.0) kept.steady;
      events = ap (λ (p : ℕ × (Bool × ℕ)). p.1.1) kept.steady;
      at_least = omega (arith, count, from);
      at_most = omega (arith, count, to);
      sound = λ s. whole_sound c.table (kept.sound (begun_sound t event s));
      still = λ s. kept.still (begun_sound t event s);
    }

finished_taken : (t : Table) (event : Event) (c : Course) → Finished (begun t event) (length t.clients) c → IsTaken t event c.table
finished_taken t event c (inl s) = settled_taken t event c (length t.clients) (omega arith) (omega arith) s
finished_taken t event c (inr s) = settled_taken t event c (suc (length t.clients)) (omega arith) (omega arith) s

finished_refused : (t : Table) (event : Event) (c : Course) → Finished (begun t event) (length t.clients) c → is_refused (outs c) ≡ true → c.table ≡ begun t event
finished_refused t event c (inl s) refused = s.refused refused
finished_refused t event c (inr s) refused = s.refused refused

finished_onward : (t : Table) (event : Event) (c : Course) → Finished (begun t event) (length t.clients) c → stops (outs c) ≡ false
finished_onward t event c (inl s) = onward_outs c.effects c.staged s.onward
finished_onward t event c (inr s) = onward_outs c.effects c.staged s.onward

-- the end is taken
halt_taken : (t : Table) (event : Event) → event.kind ≡ Halt → IsTaken t event (halted (course_begun t event)).table
halt_taken t event is = record {
  moment = refl;
  stopped = λ other. absurd (other is);
  events = refl;
  at_least = omega arith;
  at_most = omega arith;
  sound = λ s. let b = begun_sound t event s in record { moment = b.moment; orderly = b.orderly; peer_ids = b.peer_ids; sessions = b.sessions; rows = b.rows };
  still = λ s. still_same t.clients;
}

abbrev is_halt : Kind → Bool
is_halt Halt = true
is_halt kind = false

halt_or_not : (kind : Kind) → (kind ≡ Halt) ⊎ (kind ≡ Halt → ⊥)
halt_or_not (Datagram from bytes) = inr (λ e. false≢true (ap is_halt e))
halt_or_not (EngineText conn bytes) = inr (λ e. false≢true (ap is_halt e))
halt_or_not (EnginePlain conn bytes) = inr (λ e. false≢true (ap is_halt e))
halt_or_not (EngineUp conn name) = inr (λ e. false≢true (ap is_halt e))
halt_or_not (EngineDown conn) = inr (λ e. false≢true (ap is_halt e))
halt_or_not (DeviceIn bytes) = inr (λ e. false≢true (ap is_halt e))
halt_or_not DeviceReady = inr (λ e. false≢true (ap is_halt e))
halt_or_not (File id answer) = inr (λ e. false≢true (ap is_halt e))
halt_or_not (Line bytes) = inr (λ e. false≢true (ap is_halt e))
halt_or_not Tick = inr (λ e. false≢true (ap is_halt e))
halt_or_not Halt = inl refl

-- ---- by what the step came to

sound_by : (t : Table) (event : Event) (later : Table) → (later ≡ t) ⊎ IsTaken t event later → IsSound t → IsSound later
sound_by t event later (inl same) s = subst IsSound (sym same) s
sound_by t event later (inr is) s = is.sound s

moment_by : (t : Table) (event : Event) (later : Table) → (later ≡ t) ⊎ IsTaken t event later → t.moment ≤ 2 ^ 52 → (t.moment ≤ later.moment) × (later.moment ≤ 2 ^ 52)
moment_by t event later (inl same) most = let e = ap (λ (t : Table). t.moment) same in (omega (arith, e), omega (arith, e, most))
moment_by t event later (inr is) most = let e = is.moment in (omega (arith, e, most), omega (arith, e))

still_by : (t : Table) (event : Event) (later : Table) → (later ≡ t) ⊎ IsTaken t event later → IsSound t → AreStill t.clients later.clients
still_by t event later (inl same) s =
    subst (λ (later : Table). AreStill t.clients later.clients) (sym same)
    (still_same t.clients)
still_by t event later (inr is) s = is.still s

grows_by : (t : Table) (event : Event) (later : Table) → (later ≡ t) ⊎ IsTaken t event later → (length t.clients ≤ length later.clients) × (length later.clients ≤ length t.clients + 1)
grows_by t event later (inl same) = let e = ap (λ (t : Table). length t.clients) same in (omega (arith, e), omega (arith, e))
grows_by t event later (inr is) = (is.at_least, is.at_most)

module _ (calls : CallsKeepOrder) where
  taken_finished : (lacks : Bool) (t : Table) (event : Event) → is_over t ≡ false → (event.kind ≡ Halt → ⊥) → Finished (begun t event) (length t.clients) (step lacks t event)
  unfolding step
  taken_finished lacks t event goes other =
      subst (λ (b : Bool). Finished (begun t event) (length t.clients) (step_if lacks t event b)) (sym goes)
      (came_finished calls lacks event.draw event.kind (course_begun t event) other refl (begun_kept t event))

  -- either the server takes no event, or it takes this one
  step_cases : (lacks : Bool) (t : Table) (event : Event) → ((step lacks t event).table ≡ t) ⊎ IsTaken t event (step lacks t event).table
  step_cases lacks t event = go (is_over t) refl
    where
      by_kind : is_over t ≡ false → (event.kind ≡ Halt) ⊎ (event.kind ≡ Halt → ⊥) → IsTaken t event (step lacks t event).table
      by_kind goes (inl is) = subst (λ (c : Course). IsTaken t event c.table) (sym (halted_step lacks t event goes is)) (halt_taken t event is)
      by_kind goes (inr other) = finished_taken t event (step lacks t event) (taken_finished lacks t event goes other)

      go : (b : Bool) → is_over t ≡ b → ((step lacks t event).table ≡ t) ⊎ IsTaken t event (step lacks t event).table
      go true over = inl (ap (λ (c : Course). c.table) (stopped_step lacks t event over))
      go false goes = inr (by_kind goes (halt_or_not event.kind))

  pub refused_unchanged : (lacks : Bool) (t : Table) (event : Event) → is_refused (outs (step lacks t event)) ≡ true → (step lacks t event).table ≡ (course_begun t event).table
  refused_unchanged lacks t event refused = go (is_over t) refl
    where
      by_kind : is_over t ≡ false → (event.kind ≡ Halt) ⊎ (event.kind ≡ Halt → ⊥) → (step lacks t event).table ≡ (course_begun t event).table
      by_kind goes (inl is) = absurd (false≢true (sym (ap (λ (c : Course). is_refused (outs c)) (halted_step lacks t event goes is)) ∙ refused))
      by_kind goes (inr other) = finished_refused t event (step lacks t event) (taken_finished lacks t event goes other) refused

      go : (b : Bool) → is_over t ≡ b → (step lacks t event).table ≡ (course_begun t event).table
      go true over = absurd (false≢true (sym (ap (λ (c : Course). is_refused (outs c)) (stopped_step lacks t event over)) ∙ refused))
      go false goes = by_kind goes (halt_or_not event.kind)

  pub step_sound : (lacks : Bool) (t : Table) (event : Event) → IsSound t → IsSound (step lacks t event).table
  step_sound lacks t event s = sound_by t event (step lacks t event).table (step_cases lacks t event) s

  pub step_moment : (lacks : Bool) (t : Table) (event : Event) → t.moment ≤ 2 ^ 52 → (t.moment ≤ (step lacks t event).table.moment) × ((step lacks t event).table.moment ≤ 2 ^ 52)
  step_moment lacks t event most = moment_by t event (step lacks t event).table (step_cases lacks t event) most

  pub step_still : (lacks : Bool) (t : Table) (event : Event) → IsSound t → AreStill t.clients (step lacks t event).table.clients
  step_still lacks t event s = still_by t event (step lacks t event).table (step_cases lacks t event) s

  pub step_grows : (lacks : Bool) (t : Table) (event : Event) →
      (length t.clients ≤ length (step lacks t event).table.clients) × (length (step lacks t event).table.clients ≤ length t.clients + 1)
  step_grows lacks t event = grows_by t event (step lacks t event).table (step_cases lacks t event)

  -- only the end stops a server that takes events
  pub step_stops : (lacks : Bool) (t : Table) (event : Event) → is_over t ≡ false → (step lacks t event).table.is_stopped ≡ true → event.kind ≡ Halt
  step_stops lacks t event goes is = by_kind (halt_or_not event.kind)
    where
      not_stopped : (a b : Bool) → (a || b) ≡ false → a ≡ false
      not_stopped false b is = refl
      not_stopped true b is = is

      by_kind : (event.kind ≡ Halt) ⊎ (event.kind ≡ Halt → ⊥) → event.kind ≡ Halt
      by_kind (inl is) = is
      by_kind (inr other) =
          let taken = finished_taken t event (step lacks t event) (taken_finished lacks t event goes other) in
          absurd (false≢true (sym (not_stopped t.is_stopped (nat_le (2 ^ 48) t.events) goes) ∙ (sym (taken.stopped other) ∙ is)))

  -- only the end does Stop
  pub step_halts : (lacks : Bool) (t : Table) (event : Event) → stops (outs (step lacks t event)) ≡ true → event.kind ≡ Halt
  step_halts lacks t event is = go (is_over t) refl
    where
      by_kind : is_over t ≡ false → (event.kind ≡ Halt) ⊎ (event.kind ≡ Halt → ⊥) → event.kind ≡ Halt
      by_kind goes (inl halts) = halts
      by_kind goes (inr other) = absurd (false≢true (sym (finished_onward t event (step lacks t event) (taken_finished lacks t event goes other)) ∙ is))

      go : (b : Bool) → is_over t ≡ b → event.kind ≡ Halt
      go true over = absurd (false≢true (sym (ap (λ (c : Course). stops (outs c)) (stopped_step lacks t event over)) ∙ is))
      go false goes = by_kind goes (halt_or_not event.kind)

  -- an event is counted at most once
  counted_by : (t : Table) (event : Event) (later : Table) → (later ≡ t) ⊎ IsTaken t event later → later.events ≤ t.events + 1
  counted_by t event later (inl same) = let e = ap (λ (t : Table). t.events) same in omega (arith, e)
  counted_by t event later (inr is) = let e = is.events in omega (arith, e)

  pub step_counts : (lacks : Bool) (t : Table) (event : Event) → (step lacks t event).table.events ≤ t.events + 1
  step_counts lacks t event = counted_by t event (step lacks t event).table (step_cases lacks t event)

  -- ---- runs

  sound_lacking : (t : Table) (event : Event) (lack : Lack) → IsSound t → IsSound (after_lacking t event lack)
  sound_lacking t event LacksNothing s = step_sound false t event s
  sound_lacking t event LacksAll s = s
  sound_lacking t event LacksHost s = step_sound true t event s

  pub run_sound : (entries : List Entry) (t : Table) → IsSound t → IsSound (after_all t entries)
  run_sound [] t s = s
  run_sound (entry ∷ entries) t s = run_sound entries (after t entry) (sound_lacking t entry.0 entry.1 s)

  moment_lacking : (t : Table) (event : Event) (lack : Lack) → t.moment ≤ 2 ^ 52 → (t.moment ≤ (after_lacking t event lack).moment) × ((after_lacking t event lack).moment ≤ 2 ^ 52)
  moment_lacking t event LacksNothing most = step_moment false t event most
  moment_lacking t event LacksAll most = (omega arith, most)
  moment_lacking t event LacksHost most = step_moment true t event most

  pub run_moment : (entries : List Entry) (t : Table) → t.moment ≤ 2 ^ 52 → t.moment ≤ (after_all t entries).moment
  run_moment [] t most = omega arith
  run_moment (entry ∷ entries) t most =
      let first = moment_lacking t entry.0 entry.1 most in
      let rest = run_moment entries (after t entry) first.1 in
      omega (arith, first.0, rest)

  still_lacking : (t : Table) (event : Event) (lack : Lack) → IsSound t → AreStill t.clients (after_lacking t event lack).clients
  still_lacking t event LacksNothing s = step_still false t event s
  still_lacking t event LacksAll s = still_same t.clients
  still_lacking t event LacksHost s = step_still true t event s

  pub run_still : (entries : List Entry) (t : Table) → IsSound t → AreStill t.clients (after_all t entries).clients
  run_still [] t s = still_same t.clients
  run_still (entry ∷ entries) t s =
      still_then t.clients (after t entry).clients (after_all (after t entry) entries).clients (still_lacking t entry.0 entry.1 s)
      (run_still entries (after t entry) (sound_lacking t entry.0 entry.1 s))
