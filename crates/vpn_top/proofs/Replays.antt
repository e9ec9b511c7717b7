-- How `replay` ends, once its refusal was told.
use Rattle.std.proofs.Common.{◌≡◌, ℕ, zero, suc, ◌+◌, ◌≤◌, Bool, true, false, List, [], ◌∷◌, ◌++◌, length, take, ap, ◌∙◌, sym, subst, inl, inr, refl, arith, append-nil, append_assoc}
use Rattle.std.specs.Prelude.{◌⊎◌, Option, Some, None, IsTrue}
use Rattle.std.proofs.lemmas.Bool.{false≢true}
use Rattle.std.proofs.lemmas.Option.{none-some}
use Rattle.vpn_base.specs.Answers.{Rose}
use Rattle.vpn_base.specs.Files.{Holding, Untold, Absent, Held, IsMissing}
use Rattle.vpn_base.specs.Sink.{appended}
use Rattle.vpn_links.specs.Actions.{Action}
use Rattle.vpn_links.specs.declared.events.Event.{Event}
use Rattle.vpn_links.specs.declared.links.LinkFault.TheVariants as faults
use Rattle.vpn_node.specs.Running.{Between, BrokeOff, Ends, Within, goes_on, stops_last}
use Rattle.vpn_node.specs.declared.outcome.Outcome.{Outcome}
use Rattle.vpn_node.specs.declared.outcome.Outcome.TheVariants as outcomes
use Rattle.vpn_node.specs.declared.outcome.Ran.{Ran}
use Rattle.replay_links.specs.Fronts.{IsFrontOf}
use Rattle.replay_links.specs.Replay.{Caused, IsRefused, MayFail}
use Rattle.replay_links.specs.Replay as links
use Rattle.replay_links.specs.Schedule.{Spelled, schedule_of, spells}
use Rattle.replay_links.specs.declared.end.ReplayEnd.{ReplayEnd}
use Rattle.replay_links.specs.declared.end.ReplayEnd.TheVariants as ends
use Rattle.replay_links.specs.declared.reading.LineFault.{LineFault}
use Rattle.ovpn_config.specs.declared.settings.Settings.{Settings}
use Rattle.server_table.specs.Runs.{Entry, MayRun, after, run}
use Rattle.server_table.specs.Table.{Table, table_begun}
use Rattle.server_promise.specs.Promise.{Promise}
use Rattle.server_replay.specs.Replays.{AreSpelled, BrokeBy, IsReplay, most_turns}
use Rattle.server_replay.specs.Runs.{events_of}
use Rattle.server_replay.specs.Transcript.{transcript}
use Rattle.vpn_top.specs.declared.refusal.Refusal.{Refusal}
use Rattle.vpn_top.specs.declared.refusal.Refusal.TheVariants as refusals
use Rattle.vpn_top.specs.declared.replay.Loaded.{Loaded}
use Rattle.vpn_top.specs.Replay.{AreAllBefore, CameOf, First, IsServer, NotRead, RanReplay, ReplayedAtMost, ReplayedPart, ServerRun, done_line, outs_in}
use Rattle.vpn_top.specs.Written.{IsWhole, Run}
use Rattle.vpn_top.specs.internal.Refused.{Printing}
use Rattle.vpn_top.specs.internal.Replaying.{IsLoaded, ServerEnded, ended_by, refusal_by, refused_by, stopped_by, unread_by}
use Rattle.vpn_top.proofs.Counting.{rose_since}
use Rattle.vpn_top.proofs.Transcripts.{Begins, StopOfEnd, begins_behind, begins_longer, front_taken, halted_last, run_begins}

-- ---- texts that were appended

appended_none : (before : Option (List ℕ)) → appended before [] ≡ before
appended_none None = refl
appended_none (Some held) = ap Some (append-nil held)

appended_twice : (before : Option (List ℕ)) (first second : List ℕ) → appended (appended before first) second ≡ appended before (first ++ second)
appended_twice None first second = refl
appended_twice (Some held) first second = ap Some (append_assoc held first second)

-- ---- the events of a schedule

-- what the front of a file spells is what it spells
abbrev pub LongLaw : Type 0
LongLaw = (text : List ℕ) → schedule_of text ≡ spells text

-- a text is the file's whole one, or what spells the same
record Spells (holding : Holding) (s : Spelled) : Type 0 where
  pub text : List ℕ
  pub whole : IsWhole holding text
  pub same : spells text ≡ s

spelled_whole : LongLaw → (holding : Holding) (text : List ℕ) → IsFrontOf holding text → Spells holding (spells text)
spelled_whole law Untold text front = record { text = text; whole = tt; same = refl }
spelled_whole law Absent text front = absurd front
spelled_whole law (Held held) text front = record { text = held; whole = refl; same = sym (law held) ∙ ap spells (sym front.0) }

pub came_of : LongLaw → (holding : Holding) (is_read : Bool) (text : List ℕ) (left : List Event) (fault : Option LineFault) (events : List Event) →
    AreSpelled holding is_read text left fault events → CameOf holding events
came_of law holding false text left fault events none = NotRead none
came_of law holding true text left fault events is =
    let w = spelled_whole law holding text is.0 in
    First left (record { text = w.text; whole = w.whole; all = ap (λ (s : Spelled). s.events) w.same ∙ is.1 })

all_before : LongLaw → (holding : Holding) (is_read : Bool) (text : List ℕ) (left : List Event) (fault : Option LineFault) (events : List Event) (line : ℕ) (kind : _) → is_read ≡ true → left ≡ [] →
    fault ≡ Some (record { line = line; kind = kind }) → AreSpelled holding is_read text left fault events → AreAllBefore holding events line kind
all_before law holding false text left fault events line kind opened none because is = absurd (false≢true opened)
all_before law holding true text left fault events line kind opened none because is =
    let w = spelled_whole law holding text is.0 in
    record {
      text = w.text;
      whole = w.whole;
      all = ap (λ (s : Spelled). s.events) w.same ∙ (is.1 ∙ (ap (λ (l : List Event). events ++ l) none ∙ append-nil events));
      fault = ap (λ (s : Spelled). s.fault) w.same ∙ (is.2 ∙ because);
    }

none_came : (holding : Holding) (is_read : Bool) (text : List ℕ) (left : List Event) (fault : Option LineFault) (entries : List Entry) → is_read ≡ false →
    AreSpelled holding is_read text left fault (events_of entries) → entries ≡ []
none_came holding true text left fault entries shut is = absurd (false≢true (sym shut))
none_came holding false text left fault [] shut is = refl
none_came holding false text left fault (entry ∷ entries) shut is = absurd (let counts = ap length is in omega (arith, counts))

run_length : (t : Table) (entries : List Entry) → length (run t entries) ≡ length entries
run_length t [] = refl
run_length t (entry ∷ entries) = ap suc (run_length (after t entry) entries)

-- ---- what was given

no_front : (is_cut : Bool) (count : ℕ) (part : Option Action) (front : List ℕ) → is_cut ≡ false → links.IsFront is_cut count part front → front ≡ []
no_front false count part front uncut is = is
no_front true count part front uncut is = absurd (false≢true (sym uncut))

-- a schedule that gave no further event broke the run off between two
between : (turns : ℕ) (outs given : List (List Action)) (part : Option Action) → BrokeOff (Unit {0}) ⊥ turns outs given part → (given ≡ outs) × IsTrue (goes_on outs)
between turns outs given part (Between may whole none onward fewer) = (whole, onward)
between turns outs given part (Within never n first at within only most) = absurd never

never_broke : (turns : ℕ) (outs given : List (List Action)) (part : Option Action) → BrokeOff ⊥ ⊥ turns outs given part → ⊥
never_broke turns outs given part (Between never whole none onward fewer) = never
never_broke turns outs given part (Within never n first at within only most) = never

abbrev is_missing : Option ReplayEnd → Bool
is_missing (Some ends.Missing) = true
is_missing ended = false

not_missing : (ended : Option ReplayEnd) (files : ℕ × ℕ) → (ended ≡ Some ends.Missing → ⊥) → (ended ≡ Some ends.Missing) ⊎ Rose files.0 files.1 → Rose files.0 files.1
not_missing ended files other (inl is) = absurd (other is)
not_missing ended files other (inr rose) = rose

-- ---- the end of a run

-- a front of its lines was written
front_of : {holds : List ℕ → Holding} {config schedule : List ℕ} (run : Run) (server : ServerRun holds config schedule) (text : List ℕ) → run.after ≡ appended run.before text →
    Begins text (transcript (outs_in server) ++ done_line (length server.entries)) → ReplayedPart holds config schedule run
front_of run server text written begins = record {
  server = server;
  size = length text;
  written = written ∙ ap (appended run.before) (front_taken text (transcript (outs_in server) ++ done_line (length server.entries)) begins);
}

-- all of them but the last
front_lines : {holds : List ℕ → Holding} {config schedule : List ℕ} (run : Run) (server : ServerRun holds config schedule) → run.after ≡ appended run.before (transcript (outs_in server)) → ReplayedPart holds config schedule run
front_lines run server written = front_of run server (transcript (outs_in server)) written (record { rest = done_line (length server.entries); same = refl })

module _ (law : LongLaw) (promise : (settings : Settings) (key : List ℕ) (entries : List Entry) → MayRun (table_begun settings key) entries → Promise settings key entries)
    (holds : List ℕ → Holding) (config schedule : List ℕ) (loaded : Loaded) (before now after : Option (List ℕ)) (ended : Option ReplayEnd) (is_cut : Bool) (ran : Ran)
    (files : ℕ × ℕ) (mid : ℕ) (out : ℕ × ℕ) (err : ℕ × ℕ) (is_loaded : IsLoaded holds config loaded)
    (r : IsReplay (table_begun loaded.settings loaded.key.0) (holds schedule) before now ended is_cut ran) where
  abbrev served : ServerRun holds config schedule
  served = record {
    settings = loaded.settings;
    configured = is_loaded.configured;
    is_server = is_loaded.is_server;
    key = loaded.key.0;
    keyed = is_loaded.keyed;
    entries = r.entries;
    may = r.may;
    came = came_of law (holds schedule) r.schedule.is_read r.schedule.text r.schedule.left r.schedule.fault (events_of r.entries) r.schedule.spelled;
    promise = promise loaded.settings loaded.key.0 r.entries r.may;
  }

  is_server : IsServer holds config
  is_server = record { settings = loaded.settings; configured = is_loaded.configured; is_server = is_loaded.is_server; key = loaded.key.0; keyed = is_loaded.keyed }

  abbrev this_run : Option (List ℕ) → Run
  this_run held = record { before = before; after = held; files = files; out = out; err = err }

  -- what was written, whatever it came to
  part_written : (held : Option (List ℕ)) → held ≡ appended before (transcript r.given ++ r.front) → ReplayedPart holds config schedule (this_run held)
  part_written held written =
      let count = run_length (table_begun loaded.settings loaded.key.0) r.entries in
      front_of (this_run held) served (transcript r.given ++ r.front) written
      (begins_longer (transcript r.given ++ r.front) (transcript (outs_in served)) (done_line (length r.entries))
      (run_begins ran.outcome is_cut (outs_in served) r.given r.part r.front r.outcome (subst (λ (n : ℕ). links.IsFront is_cut n r.part r.front) (sym count) r.cut)))

  pub in_part : ReplayedPart holds config schedule (this_run now)
  in_part = part_written now r.written

  -- where no line was cut and all was given
  whole_lines : is_cut ≡ false → r.given ≡ outs_in served → now ≡ appended before (transcript (outs_in served))
  whole_lines uncut whole =
      r.written ∙ (ap (λ (front : List ℕ). appended before (transcript r.given ++ front)) (no_front is_cut (length r.entries) r.part r.front uncut r.cut)
      ∙ (ap (appended before) (append-nil (transcript r.given)) ∙ ap (λ (given : List (List Action)). appended before (transcript given)) whole))

  missing_end : is_cut ≡ false → ended ≡ Some ends.Missing → r.given ≡ outs_in served → IsMissing (holds schedule) × (now ≡ before)
  missing_end uncut is whole =
      let cause = subst (λ (e : Option ReplayEnd). Caused (holds schedule) r.schedule.is_read r.schedule.left r.schedule.fault e) is r.schedule.cause in
      let none = none_came (holds schedule) r.schedule.is_read r.schedule.text r.schedule.left r.schedule.fault r.entries cause.0 r.schedule.spelled in
      (cause.1, whole_lines uncut whole ∙ (ap (λ (entries : List Entry). appended before (transcript (run (table_begun loaded.settings loaded.key.0) entries))) none ∙ appended_none before))

  input_end : is_cut ≡ false → (given_whole : r.given ≡ outs_in served) → (ended ≡ Some ends.Missing) ⊎ Rose mid files.1 → files.0 ≤ mid → (e : Option ReplayEnd) → ended ≡ e →
      RanReplay holds config schedule (Some (unread_by e)) schedule (this_run now)
  input_end uncut whole because since (Some ends.Missing) is = let m = missing_end uncut is whole in (inr (refl, is_server), m.0, m.1)
  input_end uncut whole because since (Some ends.Failed) is =
      (rose_since files.0 mid files.1 since (not_missing ended (mid, files.1) (λ m. absurd (other (sym is ∙ m))) because), inr (refl, in_part))
    where
      other : Some ends.Failed ≡ Some ends.Missing → ⊥
      other e = false≢true (ap is_missing e)
  input_end uncut whole because since (Some (ends.Refused line kind)) is =
      (rose_since files.0 mid files.1 since (not_missing ended (mid, files.1) (λ m. absurd (other (sym is ∙ m))) because), inr (refl, in_part))
    where
      other : Some (ends.Refused line kind) ≡ Some ends.Missing → ⊥
      other e = false≢true (ap is_missing e)
  input_end uncut whole because since None is =
      (rose_since files.0 mid files.1 since (not_missing ended (mid, files.1) (λ m. absurd (none-some _ (sym is ∙ m))) because), inr (refl, in_part))

  schedule_end : is_cut ≡ false → r.given ≡ outs_in served → IsTrue (goes_on (outs_in served)) → (e : Option ReplayEnd) → ended ≡ e → IsRefused e →
      RanReplay holds config schedule (Some (refused_by e)) schedule (this_run now)
  schedule_end uncut whole onward None is refused = absurd refused
  schedule_end uncut whole onward (Some ends.Missing) is refused = absurd refused
  schedule_end uncut whole onward (Some ends.Failed) is refused = absurd refused
  schedule_end uncut whole onward (Some (ends.Refused line kind)) is refused =
      let cause = subst (λ (e : Option ReplayEnd). Caused (holds schedule) r.schedule.is_read r.schedule.left r.schedule.fault e) is r.schedule.cause in
      record {
        server = served;
        came = all_before law (holds schedule) r.schedule.is_read r.schedule.text r.schedule.left r.schedule.fault (events_of r.entries) line kind cause.0 cause.1 cause.2 r.schedule.spelled;
        not_stopped = onward;
        written = whole_lines uncut whole;
      }

  -- a good end: no line was cut, all was given, the last event stopped it, and nothing was left out
  abbrev Good : Type 0
  Good = (is_cut ≡ false) × (r.given ≡ outs_in served) × IsTrue (stops_last (outs_in served)) × (ran.refused ≡ 0)

  -- by what the run is refused for
  abbrev pub EndOf : Option Refusal → Type 0
  EndOf None = Good
  EndOf (Some refusal) = RanReplay holds config schedule (Some refusal) schedule (this_run now)

  stopped_end : is_cut ≡ false → r.given ≡ outs_in served → IsTrue (stops_last (outs_in served)) → (n : ℕ) → ran.refused ≡ n → EndOf (stopped_by n)
  stopped_end uncut whole stopped zero is = (uncut, whole, stopped, is)
  stopped_end uncut whole stopped (suc n) is = inr in_part

  outcome_end : is_cut ≡ false → (outcome : Outcome) → Ends MayFail outcome most_turns (outs_in served) r.given r.part → BrokeBy outcome ended (mid, files.1) out → files.0 ≤ mid →
      EndOf (ended_by outcome ended ran.refused)
  outcome_end uncut outcomes.Stopped is by since = stopped_end uncut is.0 is.2 ran.refused refl
  outcome_end uncut outcomes.TurnsSpent is by since = record {
    server = served;
    most = let count = run_length (table_begun loaded.settings loaded.key.0) r.entries in sym count ∙ is.3;
    not_stopped = is.2;
    written = whole_lines uncut is.0;
  }
  outcome_end uncut outcomes.Memory is by since = inr in_part
  outcome_end uncut (outcomes.Fault faults.Input) is by since = let b = between most_turns (outs_in served) r.given r.part is in input_end uncut b.0 by since ended refl
  outcome_end uncut (outcomes.Fault faults.Schedule) is by since = let b = between most_turns (outs_in served) r.given r.part is in schedule_end uncut b.0 b.1 ended refl by
  outcome_end uncut (outcomes.Fault faults.Output) is by since = (inl by, inr in_part)
  outcome_end uncut (outcomes.Fault faults.Wire) is by since = absurd (never_broke most_turns (outs_in served) r.given r.part is)
  outcome_end uncut (outcomes.Fault faults.Engine) is by since = absurd (never_broke most_turns (outs_in served) r.given r.part is)
  outcome_end uncut (outcomes.Fault faults.Device) is by since = absurd (never_broke most_turns (outs_in served) r.given r.part is)
  outcome_end uncut (outcomes.Fault faults.Console) is by since = absurd (never_broke most_turns (outs_in served) r.given r.part is)
  outcome_end uncut (outcomes.Fault faults.Random) is by since = absurd (never_broke most_turns (outs_in served) r.given r.part is)

  run_end : (cut : Bool) → is_cut ≡ cut → BrokeBy ran.outcome ended (mid, files.1) out → (is_cut ≡ true → Rose out.0 out.1) → files.0 ≤ mid → EndOf (refusal_by cut ran.outcome ended ran.refused)
  run_end true is by rises since = (inl (rises is), inr in_part)
  run_end false is by rises since = outcome_end is ran.outcome r.outcome by since

  -- the answer of the code
  pub run_ended : (refusal : Option Refusal) → refusal ≡ refusal_by is_cut ran.outcome ended ran.refused → BrokeBy ran.outcome ended (mid, files.1) out → (is_cut ≡ true → Rose out.0 out.1) →
      files.0 ≤ mid → EndOf refusal
  run_ended refusal is by rises since = subst EndOf (sym is) (run_end is_cut refl by rises since)

  -- once the last line was written, or not
  pub done_end : StopOfEnd → (x : Option Refusal) (out_mid : ℕ) → Good → Printing (done_line ran.events) now after (out_mid, out.1) x → out.0 ≤ out_mid →
      RanReplay holds config schedule x schedule (this_run after)
  done_end stop None out_mid good printed since = record {
    server = served;
    stopped = good.2;
    halted = halted_last stop (table_begun loaded.settings loaded.key.0) r.entries good.2;
    nothing_lacks = r.whole good.3;
    written = printed ∙ (ap (λ (held : Option (List ℕ)). appended held (done_line ran.events)) (whole_lines good.0 good.1)
        ∙ (appended_twice before (transcript (outs_in served)) (done_line ran.events)
        ∙ ap (λ (n : ℕ). appended before (transcript (outs_in served) ++ done_line n)) r.events));
  }
  done_end stop (Some refusals.Output) out_mid good printed since =
      let front = take printed.1.length (done_line (length r.entries)) in (
        inl (rose_since out.0 out_mid out.1 since printed.0),
        inr (front_of (this_run after) served (transcript (outs_in served) ++ front)
            (printed.1.is ∙ (ap (λ (held : Option (List ℕ)). appended held (take printed.1.length (done_line ran.events))) (whole_lines good.0 good.1)
            ∙ (appended_twice before (transcript (outs_in served)) (take printed.1.length (done_line ran.events))
            ∙ ap (λ (n : ℕ). appended before (transcript (outs_in served) ++ take printed.1.length (done_line n))) r.events)))
            (begins_behind (transcript (outs_in served)) (done_line (length r.entries)) printed.1.length)),
      )
  done_end stop (Some refusals.NoMemory) out_mid good printed since = inr (part_written after (printed ∙ r.written))
  done_end stop (Some refusals.Usage) out_mid good printed since = absurd printed
  done_end stop (Some (refusals.Line fault)) out_mid good printed since = absurd printed
  done_end stop (Some (refusals.Config line kind)) out_mid good printed since = absurd printed
  done_end stop (Some (refusals.Key fault)) out_mid good printed since = absurd printed
  done_end stop (Some refusals.NotServer) out_mid good printed since = absurd printed
  done_end stop (Some (refusals.Schedule line kind)) out_mid good printed since = absurd printed
  done_end stop (Some refusals.TurnsSpent) out_mid good printed since = absurd printed
  done_end stop (Some refusals.Missing) out_mid good printed since = absurd printed
  done_end stop (Some refusals.Unreadable) out_mid good printed since = absurd printed

-- ---- the server was not loaded

pub not_loaded : (r : Refusal) (holds : List ℕ → Holding) (config schedule subject : List ℕ) (run : Run) → run.after ≡ run.before → ServerEnded holds config run.files r subject →
    RanReplay holds config schedule (Some r) subject run
not_loaded refusals.Usage holds config schedule subject run same ended = absurd ended
not_loaded (refusals.Line fault) holds config schedule subject run same ended = absurd ended
not_loaded (refusals.Config line kind) holds config schedule subject run same ended = (ended, same)
not_loaded (refusals.Key fault) holds config schedule subject run same ended = (ended, same)
not_loaded refusals.NotServer holds config schedule subject run same ended = (ended, same)
not_loaded (refusals.Schedule line kind) holds config schedule subject run same ended = absurd ended
not_loaded refusals.TurnsSpent holds config schedule subject run same ended = absurd ended
not_loaded refusals.Missing holds config schedule subject run same ended = (inl ended.0, ended.1, same)
not_loaded refusals.Unreadable holds config schedule subject run same ended = (ended.2, inl (ended.0, ended.1, same))
not_loaded refusals.Output holds config schedule subject run same ended = absurd ended
not_loaded refusals.NoMemory holds config schedule subject run same ended = inl same

-- ---- its refusal was told

-- whatever it was refused for
at_most : (r : Refusal) (holds : List ℕ → Holding) (config schedule subject : List ℕ) (run : Run) → RanReplay holds config schedule (Some r) subject run → ReplayedAtMost holds config schedule run
at_most refusals.Usage holds config schedule subject run ran = absurd ran
at_most (refusals.Line fault) holds config schedule subject run ran = absurd ran
at_most (refusals.Config line kind) holds config schedule subject run ran = inl ran.1
at_most (refusals.Key fault) holds config schedule subject run ran = inl ran.1
at_most refusals.NotServer holds config schedule subject run ran = inl ran.1
at_most (refusals.Schedule line kind) holds config schedule subject run ran = inr (front_lines run ran.server ran.written)
at_most refusals.TurnsSpent holds config schedule subject run ran = inr (front_lines run ran.server ran.written)
at_most refusals.Missing holds config schedule subject run ran = inl ran.2
at_most refusals.Unreadable holds config schedule subject run (rose, inl first) = inl first.2
at_most refusals.Unreadable holds config schedule subject run (rose, inr then) = inr then.1
at_most refusals.Output holds config schedule subject run ran = ran.1
at_most refusals.NoMemory holds config schedule subject run ran = ran

-- the refusal that is told is the one that it ended by, or one that came in telling it
pub replay_told : (r told : Refusal) (holds : List ℕ → Holding) (config schedule subject : List ℕ) (run : Run) → RanReplay holds config schedule (Some r) subject run →
    ((told ≡ r) ⊎ (told ≡ refusals.NoMemory) ⊎ ((told ≡ refusals.Output) × Rose run.err.0 run.err.1)) → RanReplay holds config schedule (Some told) subject run
replay_told r told holds config schedule subject run ran (inl same) = rw same ran
replay_told r told holds config schedule subject run ran (inr (inl memory)) = rw memory (at_most r holds config schedule subject run ran)
replay_told r told holds config schedule subject run ran (inr (inr failed)) = rw failed.0 (inr failed.1, at_most r holds config schedule subject run ran)
