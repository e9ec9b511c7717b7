-- What links of a replay stand for, as they go on.
use Rattle.std.proofs.Common.{◌≡◌, ℕ, suc, ◌+◌, ◌-◌, ◌<◌, ◌≤◌, Bool, true, false, List, [], ◌∷◌, ◌++◌, length, take, refl, ap, sym, ◌∙◌, subst, arith, append_assoc, append-nil, take_all, length-append, Some, None, Option, if◌then◌else◌, ap₂, leb-false, leb-true, le-leb, length-take-le, nat_le}
use Rattle.std.proofs.lemmas.Bool.{false_from_ne_true, false≢true}
use Rattle.std.proofs.lemmas.List.{map-append, take-append-le}
use Rattle.vpn_base.specs.Files.{Holding, Absent}
use Rattle.vpn_base.specs.Sink.{appended}
use Rattle.vpn_links.specs.Actions.{Action}
use Rattle.vpn_links.specs.Rounds.{Given, Round, came, gave}
use Rattle.vpn_links.specs.declared.events.Event.{Event}
use Rattle.replay_links.specs.Replay.{AllHalt, Beyond, Came, Caused, HasGiven, IsFront, IsRefused, Replay, ReplayStands, StandsFor, Within, Wrote, begun_of, came_in, effect_lines, transcript, transcript_from, without_last}
use Rattle.vpn_base.specs.Files.{IsMissing}
use Rattle.vpn_links.specs.declared.events.Kind.TheVariants.{Halt}
use Rattle.schedule_text.specs.EffectLine.{effect_line}
use Rattle.replay_links.specs.declared.reading.LineFault.{LineFault}
use Rattle.replay_links.specs.declared.end.ReplayEnd.{ReplayEnd}
use Rattle.replay_links.specs.declared.end.ReplayEnd.TheVariants as ends
use Rattle.replay_links.specs.Fronts.{IsFrontOf}
use Rattle.replay_links.specs.Schedule.{Spelled, spells}
use Rattle.replay_links.specs.internal.Cuts.{Cut}
use Rattle.replay_links.proofs.Appending.{appended-appended, appended-nil}

-- nothing was written yet
pub none_written : (contents : Option (List ℕ)) → begun_of contents 0 ≡ contents
none_written None = refl
none_written (Some held) =
    let some : nat_le 0 (length held) ≡ true = le-leb 0 (length held) (omega arith) in
    let all : length held ≤ length held - 0 = omega arith in
    ap Some (ap (λ b. if b then take (length held - 0) held else []) some ∙ take_all (length held - 0) held all)

-- ---- at first

pub stands_first : {F S : Type 0} (holding : Holding) (contents : Option (List ℕ)) (r : Replay F S) →
    r.written ≡ 0 → r.is_open ≡ false → r.given ≡ 0 → r.is_cut ≡ false → r.missing ≡ 0 → r.refused ≡ 0 → r.ended ≡ None → StandsFor holding contents r None []
stands_first holding contents r written closed given cut missing refused ended = record {
  events = rw closed refl;
  count = given;
  wrote = record {
    front = [];
    cut = rw cut refl;
    holds = rw written (rw (none_written contents) (appended-nil contents));
  };
  cause = rw ended tt;
  no_file = λ some. absurd (omega (arith, missing, some));
  a_line = λ some. absurd (omega (arith, refused, some));
}

-- ---- causes

-- a line is refused only of a schedule that was read
refused_open : (holding : Holding) (is_open : Bool) (left : List Event) (fault : Option LineFault) (x : Option ReplayEnd) → is_open ≡ false → Caused holding is_open left fault x → IsRefused x → ⊥
refused_open holding is_open left fault None closed c never = never
refused_open holding is_open left fault (Some ends.Missing) closed c never = never
refused_open holding is_open left fault (Some ends.Failed) closed c never = never
refused_open holding is_open left fault (Some (ends.Refused line kind)) closed c is = false≢true (sym closed ∙ c.0)

-- ---- an event came

came_behind : (rounds : List Round) (e : Event) → came_in (came rounds e) ≡ came_in rounds ++ e ∷ []
came_behind rounds e = map-append (λ (r : Round). r.event) rounds (record { event = e; effects = [] } ∷ [])

came_long : (rounds : List Round) (e : Event) → length (came rounds e) ≡ length rounds + 1
came_long rounds e = length-append rounds (record { event = e; effects = [] } ∷ [])

-- an event without effects has no lines
lines_behind : (number : ℕ) (rounds : List Round) (e : Event) → transcript_from number (came rounds e) ≡ transcript_from number rounds
lines_behind number [] e = refl
lines_behind number (r ∷ rounds) e = ap (λ l. effect_lines number r.effects ++ l) (lines_behind (suc number) rounds e)

front_later : (is_cut : Bool) (count later : ℕ) (front : List ℕ) → IsFront is_cut count None front → IsFront is_cut later None front
front_later false count later front is = is
front_later true count later front is = absurd is

wrote_later : (contents : Option (List ℕ)) (written : ℕ) (is_cut : Bool) (rounds : List Round) (e : Event) → Wrote contents written is_cut None rounds → Wrote contents written is_cut None (came rounds e)
wrote_later contents written is_cut rounds e w = record {
  front = w.front;
  cut = front_later is_cut (length rounds) (length (came rounds e)) w.front w.cut;
  holds = w.holds ∙ ap (λ l. appended (begun_of contents written) (l ++ w.front)) (sym (lines_behind 0 rounds e));
}

given_within : (spelled : Spelled) (came_so left later : List Event) (e : Event) → left ≡ e ∷ later → HasGiven spelled came_so left → HasGiven spelled (came_so ++ e ∷ []) later
given_within spelled came_so left later e first (Within is) = Within (is ∙ (ap (λ l. came_so ++ l) first ∙ sym (append_assoc came_so (e ∷ []) later)))
given_within spelled came_so left later e first (Beyond halts is all none fault) = absurd (empty_full (e ∷ later) e later refl (sym first ∙ none))
  where
    empty_full : (l : List Event) (e : Event) (later : List Event) → l ≡ e ∷ later → l ≡ [] → ⊥
    empty_full l e later full empty = omega (arith, ap length full, ap length empty)

all_halt_more : (halts : List Event) (e : Event) → AllHalt halts → e.kind ≡ Halt → AllHalt (halts ++ e ∷ [])
all_halt_more [] e all is = (is, tt)
all_halt_more (h ∷ halts) e all is = (all.0, all_halt_more halts e all.1 is)

given_beyond : (spelled : Spelled) (came_so left : List Event) (e : Event) → left ≡ [] → spelled.fault ≡ None → e.kind ≡ Halt → HasGiven spelled came_so left → HasGiven spelled (came_so ++ e ∷ []) left
given_beyond spelled came_so left e none fault is (Within so) =
    Beyond (e ∷ []) (ap (λ l. l ++ e ∷ []) (sym (so ∙ (ap (λ l. came_so ++ l) none ∙ append-nil came_so)))) (is, tt) none fault
given_beyond spelled came_so left e none fault is (Beyond halts so all empty right) =
    Beyond (halts ++ e ∷ []) (ap (λ l. l ++ e ∷ []) so ∙ append_assoc spelled.events halts (e ∷ [])) (all_halt_more halts e all is) none fault

-- an event of the schedule came
pub stands_within : {F S : Type 0} (holding : Holding) (contents : Option (List ℕ)) (r next : Replay F S) (rounds : List Round) (e : Event) →
    r.is_open ≡ true → r.left ≡ e ∷ next.left → next ≡ record r { left = next.left; given = r.given + 1 } → StandsFor holding contents r None rounds → StandsFor holding contents next None (came rounds e)
stands_within holding contents r next rounds e opened first is s =
    let shut : (x : Option ReplayEnd) → Caused holding r.is_open r.left r.fault x → Caused holding r.is_open next.left r.fault x = λ x c. cause_later holding r.is_open r.left next.left r.fault e first x c in
    rw is (record {
      events = came_on holding r.is_open r.text r.left next.left r.fault (came_in rounds) (came_in (came rounds e)) e opened first (came_behind rounds e) s.events;
      count = omega (arith, s.count, came_long rounds e);
      wrote = wrote_later contents r.written r.is_cut rounds e s.wrote;
      cause = shut r.ended s.cause;
      no_file = s.no_file;
      a_line = s.a_line;
    })
  where
    came_on : (holding : Holding) (is_open : Bool) (text : List ℕ) (left later : List Event) (fault : Option LineFault) (came_so now : List Event) (e : Event) → is_open ≡ true → left ≡ e ∷ later → now ≡ came_so ++ e ∷ [] → Came holding is_open text left fault came_so → Came holding is_open text later fault now
    came_on holding false text left later fault came_so now e opened first grown so = absurd (false≢true opened)
    came_on holding true text left later fault came_so now e opened first grown so = (so.0, rw grown (given_within (spells text) came_so left later e first so.1), so.2)

    cause_later : (holding : Holding) (is_open : Bool) (left later : List Event) (fault : Option LineFault) (e : Event) → left ≡ e ∷ later → (x : Option ReplayEnd) → Caused holding is_open left fault x → Caused holding is_open later fault x
    cause_later holding is_open left later fault e first None c = tt
    cause_later holding is_open left later fault e first (Some ends.Missing) c = c
    cause_later holding is_open left later fault e first (Some ends.Failed) c = c
    cause_later holding is_open left later fault e first (Some (ends.Refused line kind)) c = absurd (omega (arith, ap length first, ap length c.1))

-- an end behind the schedule came
pub stands_beyond : {F S : Type 0} (holding : Holding) (contents : Option (List ℕ)) (r next : Replay F S) (rounds : List Round) (e : Event) →
    r.is_open ≡ true → r.left ≡ [] → r.fault ≡ None → e.kind ≡ Halt → next ≡ record r { given = r.given + 1 } → StandsFor holding contents r None rounds → StandsFor holding contents next None (came rounds e)
stands_beyond holding contents r next rounds e opened none right halt is s =
    rw is (record {
      events = came_past holding r.is_open r.text r.left r.fault (came_in rounds) (came_in (came rounds e)) e opened none right halt (came_behind rounds e) s.events;
      count = omega (arith, s.count, came_long rounds e);
      wrote = wrote_later contents r.written r.is_cut rounds e s.wrote;
      cause = s.cause;
      no_file = s.no_file;
      a_line = s.a_line;
    })
  where
    came_past : (holding : Holding) (is_open : Bool) (text : List ℕ) (left : List Event) (fault : Option LineFault) (came_so now : List Event) (e : Event) → is_open ≡ true → left ≡ [] → fault ≡ None → e.kind ≡ Halt → now ≡ came_so ++ e ∷ [] → Came holding is_open text left fault came_so → Came holding is_open text left fault now
    came_past holding false text left fault came_so now e opened none right halt grown so = absurd (false≢true opened)
    came_past holding true text left fault came_so now e opened none right halt grown so =
        (so.0, rw grown (given_beyond (spells text) came_so left e none (sym so.2 ∙ right) halt so.1), so.2)

-- ---- no event came

-- the line behind the events is refused
pub stands_refused : {F S : Type 0} (holding : Holding) (contents : Option (List ℕ)) (r next : Replay F S) (rounds : List Round) (f : LineFault) →
    r.is_open ≡ true → r.left ≡ [] → r.fault ≡ Some f → next ≡ record r { refused = next.refused; ended = Some (ends.Refused f.line f.kind) } →
    StandsFor holding contents r None rounds → StandsFor holding contents next None rounds
stands_refused holding contents r next rounds f opened none at is s =
    rw is (record {
      events = s.events;
      count = s.count;
      wrote = s.wrote;
      cause = (opened, none, at);
      no_file = λ some. absurd (never (r.ended) r.is_open holding r.left r.fault opened (s.no_file some) s.cause);
      a_line = λ some. tt;
    })
  where
    never : (x : Option ReplayEnd) (is_open : Bool) (holding : Holding) (left : List Event) (fault : Option LineFault) → is_open ≡ true → x ≡ Some ends.Missing → Caused holding is_open left fault x → ⊥
    never x is_open holding left fault opened missing c = false≢true (sym (rw missing at c).0 ∙ opened)

-- there is no file
pub stands_missing : {F S : Type 0} (holding : Holding) (contents : Option (List ℕ)) (r next : Replay F S) (rounds : List Round) →
    r.is_open ≡ false → IsMissing holding → next ≡ record r { missing = next.missing; ended = Some ends.Missing } →
    StandsFor holding contents r None rounds → StandsFor holding contents next None rounds
stands_missing holding contents r next rounds closed missing is s =
    rw is (record {
      events = s.events;
      count = s.count;
      wrote = s.wrote;
      cause = (closed, missing);
      no_file = λ some. refl;
      a_line = λ some. absurd (refused_open holding r.is_open r.left r.fault r.ended closed s.cause (s.a_line some));
    })

-- it could not be read
pub stands_failed : {F S : Type 0} (holding : Holding) (contents : Option (List ℕ)) (r next : Replay F S) (rounds : List Round) →
    r.is_open ≡ false → (r.ended ≡ Some ends.Missing → ⊥) → (¬ (holding ≡ Absent)) → next ≡ record r { files = next.files; ended = Some ends.Failed } →
    StandsFor holding contents r None rounds → StandsFor holding contents next None rounds
stands_failed holding contents r next rounds closed other there is s =
    rw is (record {
      events = s.events;
      count = s.count;
      wrote = s.wrote;
      cause = there;
      no_file = λ some. absurd (other (s.no_file some));
      a_line = λ some. absurd (refused_open holding r.is_open r.left r.fault r.ended closed s.cause (s.a_line some));
    })

-- the schedule was read
pub stands_open : {F S : Type 0} (holding : Holding) (contents : Option (List ℕ)) (r next : Replay F S) (rounds : List Round) →
    r.is_open ≡ false → (r.ended ≡ Some ends.Missing → ⊥) → IsFrontOf holding next.text → spells next.text ≡ record { events = next.left; fault = next.fault } →
    next ≡ record r { files = next.files; is_open = true; text = next.text; left = next.left; fault = next.fault } →
    StandsFor holding contents r None rounds → StandsFor holding contents next None rounds
stands_open holding contents r next rounds closed other front spelled is s =
    let none : came_in rounds ≡ [] = rw closed at s.events in
    rw is (record {
      events = (front, rw none (Within (ap (λ (x : Spelled). x.events) spelled)), sym (ap (λ (x : Spelled). x.fault) spelled));
      count = s.count;
      wrote = s.wrote;
      cause = kept holding r.is_open r.left next.left r.fault next.fault r.ended closed other s.cause;
      no_file = s.no_file;
      a_line = s.a_line;
    })
  where
    kept : (holding : Holding) (is_open : Bool) (left later : List Event) (fault next_fault : Option LineFault) (x : Option ReplayEnd) → is_open ≡ false → (x ≡ Some ends.Missing → ⊥) → Caused holding is_open left fault x → Caused holding true later next_fault x
    kept holding is_open left later fault next_fault None closed other c = tt
    kept holding is_open left later fault next_fault (Some ends.Missing) closed other c = absurd (other refl)
    kept holding is_open left later fault next_fault (Some ends.Failed) closed other c = c
    kept holding is_open left later fault next_fault (Some (ends.Refused line kind)) closed other c = absurd (false≢true (sym closed ∙ c.0))

-- ---- a line was written

take-minus : (held more : List ℕ) (written : ℕ) (b : Bool) → nat_le written (length held) ≡ b → without_last (held ++ more) (written + length more) ≡ without_last held written
take-minus held more written true fits =
    let within : written ≤ length held = leb-true written (length held) fits in
    let later : nat_le (written + length more) (length (held ++ more)) ≡ true = le-leb (written + length more) (length (held ++ more)) (omega (arith, within, length-append held more)) in
    let size : length (held ++ more) - (written + length more) ≡ length held - written = omega (arith, within, length-append held more) in
    ap (λ b. if b then take (length (held ++ more) - (written + length more)) (held ++ more) else []) later
    ∙ (ap (λ n. take n (held ++ more)) size
    ∙ (take-append-le (length held - written) held more (omega arith)
    ∙ sym (ap (λ b. if b then take (length held - written) held else []) fits)))
take-minus held more written false past =
    let beyond : length held < written = leb-false written (length held) past in
    let later : nat_le (written + length more) (length (held ++ more)) ≡ false =
    false_from_ne_true (nat_le (written + length more) (length (held ++ more)))
    (λ fits. omega (arith, leb-true (written + length more) (length (held ++ more)) fits, length-append held more, beyond)) in
    ap (λ b. if b then take (length (held ++ more) - (written + length more)) (held ++ more) else []) later
    ∙ sym (ap (λ b. if b then take (length held - written) held else []) past)

-- what was there at first stays
pub begun_later : (contents : Option (List ℕ)) (more : List ℕ) (written : ℕ) → begun_of (appended contents more) (written + length more) ≡ begun_of contents written
begun_later None more written = refl
begun_later (Some held) more written = ap Some (take-minus held more written (nat_le written (length held)) refl)

-- an effect was given: its line stands behind the others
lines_more : (number : ℕ) (given : List Given) (g : Given) → effect_lines number (given ++ g ∷ []) ≡ effect_lines number given ++ effect_line number g.action
lines_more number [] g = append-nil (effect_line number g.action)
lines_more number (h ∷ given) g = ap (λ l. effect_line number h.action ++ l) (lines_more number given g) ∙ sym (append_assoc (effect_line number h.action) (effect_lines number given) (effect_line number g.action))

pub transcript_more : (number : ℕ) (rounds : List Round) (g : Given) (last : ℕ) → last + 1 ≡ number + length rounds → 0 < length rounds → transcript_from number (gave rounds g) ≡ transcript_from number rounds ++ effect_line last g.action
transcript_more number [] g last is some = absurd (omega (arith, some))
transcript_more number (r ∷ []) g last is some =
    let same : last ≡ number = omega (arith, is) in
    ap (λ l. l ++ []) (lines_more number r.effects g) ∙ (append-nil (effect_lines number r.effects ++ effect_line number g.action)
    ∙ (ap (λ n. effect_lines number r.effects ++ effect_line n g.action) (sym same)
    ∙ ap (λ l. l ++ effect_line last g.action) (sym (append-nil (effect_lines number r.effects)))))
transcript_more number (r ∷ s ∷ rounds) g last is some =
    ap (λ l. effect_lines number r.effects ++ l) (transcript_more (suc number) (s ∷ rounds) g last (omega (arith, is)) (omega arith))
    ∙ sym (append_assoc (effect_lines number r.effects) (transcript_from (suc number) (s ∷ rounds)) (effect_line last g.action))

gave_long : (rounds : List Round) (g : Given) → length (gave rounds g) ≡ length rounds
gave_long [] g = refl
gave_long (r ∷ []) g = refl
gave_long (r ∷ s ∷ rounds) g = ap suc (gave_long (s ∷ rounds) g)

gave_came : (rounds : List Round) (g : Given) → came_in (gave rounds g) ≡ came_in rounds
gave_came [] g = refl
gave_came (r ∷ []) g = refl
gave_came (r ∷ s ∷ rounds) g = ap (λ l. r.event ∷ l) (gave_came (s ∷ rounds) g)

-- a line was written whole
pub stands_given : {F S : Type 0} (holding : Holding) (contents now : Option (List ℕ)) (r next : Replay F S) (rounds : List Round) (a : Action) (last : ℕ) →
    last + 1 ≡ r.given → r.is_cut ≡ false → now ≡ appended contents (effect_line last a) → next ≡ record r { out = next.out; written = r.written + length (effect_line last a) } →
    StandsFor holding contents r None rounds → StandsFor holding now next None (gave rounds (record { action = a; is_lost = false }))
stands_given holding contents now r next rounds a last number uncut wrote is s =
    let g : Given = record { action = a; is_lost = false } in
    let line = effect_line last a in
    let none : s.wrote.front ≡ [] = rw uncut at s.wrote.cut in
    let more = transcript_more 0 rounds g last (omega (arith, number, s.count)) (omega (arith, number, s.count)) in
    rw is (record {
      events = rw (gave_came rounds g) s.events;
      count = s.count ∙ sym (gave_long rounds g);
      wrote = record {
        front = [];
        cut = rw uncut refl;
        holds = wrote ∙ (ap (λ c. appended c line) s.wrote.holds ∙ (appended-appended (begun_of contents r.written) (transcript rounds ++ s.wrote.front) line
            ∙ ap₂ appended (sym (begun_later contents line r.written) ∙ ap (λ c. begun_of c (r.written + length line)) (sym wrote))
            (ap (λ p. (transcript rounds ++ p) ++ line) none ∙ (ap (λ l. l ++ line) (append-nil (transcript rounds)) ∙ (sym more ∙ sym (append-nil (transcript (gave rounds g))))))));
      };
      cause = s.cause;
      no_file = s.no_file;
      a_line = s.a_line;
    })

-- a line was cut
pub stands_cut : {F S : Type 0} (holding : Holding) (contents now : Option (List ℕ)) (r next : Replay F S) (rounds : List Round) (a : Action) (last n : ℕ) →
    last + 1 ≡ r.given → r.is_cut ≡ false → n ≤ length (effect_line last a) → now ≡ appended contents (take n (effect_line last a)) → next ≡ record r { out = next.out; written = r.written + n; is_cut = true } →
    StandsFor holding contents r None rounds → StandsFor holding now next (Some a) rounds
stands_cut holding contents now r next rounds a last n number uncut within wrote is s =
    let front = take n (effect_line last a) in
    let none : s.wrote.front ≡ [] = rw uncut at s.wrote.cut in
    let size : length front ≡ n = length-take-le n (effect_line last a) within in
    rw is (record {
      events = s.events;
      count = s.count;
      wrote = record {
        front = front;
        cut = (last, n, omega (arith, number, s.count), refl);
        holds = wrote ∙ (ap (λ c. appended c front) s.wrote.holds ∙ (appended-appended (begun_of contents r.written) (transcript rounds ++ s.wrote.front) front
            ∙ ap₂ appended (sym (begun_later contents front r.written) ∙ ap₂ begun_of (sym wrote) (ap (λ m. r.written + m) size))
            (ap (λ p. (transcript rounds ++ p) ++ front) none ∙ ap (λ l. l ++ front) (append-nil (transcript rounds)))));
      };
      cause = s.cause;
      no_file = s.no_file;
      a_line = s.a_line;
    })

front_whole : (is_cut : Bool) (count : ℕ) (a : Action) (front : List ℕ) → IsFront is_cut count None front → IsFront is_cut count (Some a) front
front_whole false count a front is = is
front_whole true count a front is = absurd is

-- an effect was not given, and nothing of its line was written
pub stands_ungiven : {F S : Type 0} (holding : Holding) (contents : Option (List ℕ)) (r : Replay F S) (rounds : List Round) (a : Action) →
    StandsFor holding contents r None rounds → StandsFor holding contents r (Some a) rounds
stands_ungiven holding contents r rounds a s = record {
  events = s.events;
  count = s.count;
  wrote = record { front = s.wrote.front; cut = front_whole r.is_cut (length rounds) a s.wrote.front s.wrote.cut; holds = s.wrote.holds };
  cause = s.cause;
  no_file = s.no_file;
  a_line = s.a_line;
}

-- ---- the same, by the parts that change

pub gave_within : {F S : Type 0} (holding : Holding) (contents : Option (List ℕ)) (r : Replay F S) (rounds : List Round) (e : Event) (later : List Event) (n : ℕ) →
    r.is_open ≡ true → r.left ≡ e ∷ later → n ≡ r.given + 1 → StandsFor holding contents r None rounds → StandsFor holding contents (record r { left = later; given = n }) None (came rounds e)
gave_within holding contents r rounds e later n opened first count s =
    stands_within holding contents r (record r { left = later; given = n }) rounds e opened first (ap (λ (m : ℕ). record r { left = later; given = m }) count) s

pub gave_beyond : {F S : Type 0} (holding : Holding) (contents : Option (List ℕ)) (r : Replay F S) (rounds : List Round) (e : Event) (later : List Event) (n : ℕ) →
    r.is_open ≡ true → r.left ≡ [] → later ≡ [] → r.fault ≡ None → e.kind ≡ Halt → n ≡ r.given + 1 → StandsFor holding contents r None rounds → StandsFor holding contents (record r { left = later; given = n }) None (came rounds e)
gave_beyond holding contents r rounds e later n opened none empty right halt count s =
    rw empty (rw (sym none) (stands_beyond holding contents r (record r { given = n }) rounds e opened none right halt (ap (λ (m : ℕ). record r { given = m }) count) s))

-- a line was written whole, by what files and sink tell
pub line_given : {F S : Type 0} (holds : F → List ℕ → Holding) (contents : S → Option (List ℕ)) (r next : Replay F S) (rounds : List Round) (a : Action) (line : List ℕ) (last : ℕ) →
    line ≡ effect_line last a → last + 1 ≡ r.given → r.is_cut ≡ false → contents next.out ≡ appended (contents r.out) line → next ≡ record r { out = next.out; written = r.written + length line } →
    ReplayStands holds contents r None rounds → ReplayStands holds contents next None (gave rounds (record { action = a; is_lost = false }))
line_given holds contents r next rounds a line last written number uncut wrote is s =
    let same = ap (λ (x : Replay _ _). holds x.files x.name) is in
    subst (λ (h : Holding). StandsFor h (contents next.out) next None (gave rounds (record { action = a; is_lost = false }))) (sym same)
    (stands_given (holds r.files r.name) (contents r.out) (contents next.out) r next rounds a last number uncut
    (wrote ∙ ap (appended (contents r.out)) written)
    (is ∙ ap (λ (n : ℕ). record r { out = next.out; written = r.written + n }) (ap length written)) s)

-- a line was cut, by what files and sink tell
pub line_cut : {F S : Type 0} (holds : F → List ℕ → Holding) (contents : S → Option (List ℕ)) (r next : Replay F S) (rounds : List Round) (a : Action) (line : List ℕ) (last : ℕ) →
    line ≡ effect_line last a → last + 1 ≡ r.given → r.is_cut ≡ false → Cut (contents r.out) (contents next.out) r next line →
    ReplayStands holds contents r None rounds → ReplayStands holds contents next (Some a) rounds
line_cut holds contents r next rounds a line last written number uncut cut s =
    let same = ap (λ (x : Replay _ _). holds x.files x.name) cut.same in
    subst (λ (h : Holding). StandsFor h (contents next.out) next (Some a) rounds) (sym same)
    (stands_cut (holds r.files r.name) (contents r.out) (contents next.out) r next rounds a last cut.n number uncut
    (subst (λ (l : List ℕ). cut.n ≤ length l) written cut.within)
    (cut.wrote ∙ ap (λ (l : List ℕ). appended (contents r.out) (take cut.n l)) written) cut.same s)
