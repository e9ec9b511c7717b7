-- What a run keeps.
use Rattle.std.proofs.Common.{◌≡◌, ◌≢◌, ℕ, Bool, true, false, List, [], ◌∷◌, ◌++◌, refl, sym, ap, ◌∙◌, subst, arith, append-nil, append_assoc}
use Rattle.std.proofs.lemmas.Bool.{false≢true}
use Rattle.vpn_links.specs.Actions.{Action, Report}
use Rattle.vpn_links.specs.declared.notes.Note.TheVariants as notes
use Rattle.vpn_links.specs.Steps.{Lack, LacksAll, LacksHost, LacksNothing}
use Rattle.reliable_recv.specs.Receiving.{Arrival, begun}
use Rattle.control_link.specs.Reading.{IsReadUp}
use Rattle.ovpn_config.specs.declared.settings.Settings.{Settings}
use Rattle.server_table.specs.Table.{Table, table_begun}
use Rattle.server_table.specs.Courses.{outs}
use Rattle.server_table.specs.Runs.{Entry, after, after_all, after_lacking, outs_at, outs_lacking}
use Rattle.server_table.specs.Step.{course_begun, is_over, step}
use Rattle.control_laws.specs.Brought.{WasBrought}
use Rattle.control_laws.specs.Puts.{all_outs, opened_after}
use Rattle.control_laws.specs.internal.LinkReads.{LinkReads}
use Rattle.control_laws.proofs.Actions.{none_some}
use Rattle.control_laws.proofs.Lines.{Line, lines_of}
use Rattle.control_laws.proofs.Kept.{IsLine, KeptParts, quiet_kept}
use Rattle.control_laws.proofs.KeptControl.{goes_kid}
use Rattle.control_laws.proofs.Steps.{Tells, step_kept}

-- what a table keeps between two steps of a run, since the lines were those
abbrev pub KeptAt : (ℕ → ℕ → Arrival → Type 0) → List ℕ → List (List Line) → List Action → Table → Type 0
KeptAt brought static then_lines past t =
    KeptParts brought (record { static = static; then_lines = then_lines; past = past }) t.key t.connections (lines_of t.clients) []

module _ {brought : ℕ → ℕ → Arrival → Type 0} {static : List ℕ} {then_lines : List (List Line)} where
  -- what a step did is in the past
  past_kept : {key : List ℕ} {count : ℕ} {lines : List (List Line)} (past effects : List Action) →
      KeptParts brought (record { static = static; then_lines = then_lines; past = past }) key count lines effects →
      KeptParts brought (record { static = static; then_lines = then_lines; past = past ++ effects }) key count lines []
  past_kept {count = count} past effects is = record {
    same_key = is.same_key;
    opened = ap (λ all. opened_after all 0) (append-nil (past ++ effects)) ∙ is.opened;
    each = λ n k l at. subst (λ all. IsLine brought n k l all count) (sym (append-nil (past ++ effects))) (is.each n k l at);
    apart = is.apart;
    covered = is.covered;
    grown = is.grown;
  }

  same_past : (t : Table) {past later : List Action} → past ≡ later → KeptAt brought static then_lines past t → KeptAt brought static then_lines later t
  same_past t same is = subst (λ past. KeptAt brought static then_lines past t) same is

-- the lines are now those
pub since_now : {brought : ℕ → ℕ → Arrival → Type 0} {static : List ℕ} {then_lines : List (List Line)} {past : List Action} (t : Table) →
    KeptAt brought static then_lines past t → KeptAt brought static (lines_of t.clients) past t
since_now t is = record {
  same_key = is.same_key;
  opened = is.opened;
  each = is.each;
  apart = is.apart;
  covered = is.covered;
  grown = λ n k l at. record { later = l; there = at; conn = refl; kid = refl; more = []; taken = sym (append-nil l.receiving.taken) };
}

-- a server to which nothing has come
pub begun_kept : (brought : ℕ → ℕ → Arrival → Type 0) (settings : Settings) (key : List ℕ) → KeptAt brought key [] [] (table_begun settings key)
begun_kept brought settings key = record {
  same_key = refl;
  opened = refl;
  each = λ n k l at. absurd (none_some at);
  apart = λ n k m j l x at. absurd (none_some at);
  covered = λ conn less. absurd (omega (arith, less));
  grown = λ n k l at. absurd (none_some at);
}

-- ---- tables of a run

pub after_then : (t : Table) (before more : List Entry) → after_all t (before ++ more) ≡ after_all (after_all t before) more
after_then t [] more = refl
after_then t (entry ∷ before) more = after_then (after t entry) before more

is_all : Lack → Bool
is_all LacksAll = true
is_all lack = false

nothing_not : (lack : Lack) → lack ≡ LacksNothing → lack ≢ LacksAll
unfolding is_all
nothing_not lack is all = false≢true (ap is_all (sym is ∙ all))

host_not : (lack : Lack) → lack ≡ LacksHost → lack ≢ LacksAll
unfolding is_all
host_not lack is all = false≢true (ap is_all (sym is ∙ all))

module _ (settings : Settings) (key : List ℕ) (all : List Entry) where
  -- an event of the run brings what it carries
  tells : (before : List Entry) (entry : Entry) (more : List Entry) → all ≡ before ++ entry ∷ more → entry.1 ≢ LacksAll →
      is_over (after_all (table_begun settings key) before) ≡ false →
      Tells (WasBrought settings key all) key (course_begun (after_all (table_begun settings key) before) entry.0).table entry.0.kind
  tells before entry more split took goes from op r packet n k to id carries = record {
    before = before;
    entry = entry;
    more = more;
    split = split;
    took = took;
    brings = record {
      packet = r;
      meets = record { goes_on = goes; from = from; op = op; packet = packet; goes = to };
      kid = goes_kid (course_begun (after_all (table_begun settings key) before) entry.0).table from op r n k to;
      id = carries;
      payload = refl;
    };
  }

module _ (reads : LinkReads) (up : IsReadUp begun) (settings : Settings) (key : List ℕ) (all : List Entry) {then_lines : List (List Line)} where
  lack_kept : (past : List Action) (before : List Entry) (entry : Entry) (more : List Entry) (lack : Lack) → all ≡ before ++ entry ∷ more → entry.1 ≡ lack →
      KeptAt (WasBrought settings key all) key then_lines past (after_all (table_begun settings key) before) →
      KeptAt (WasBrought settings key all) key then_lines (past ++ outs_lacking (after_all (table_begun settings key) before) entry.0 lack)
      (after_lacking (after_all (table_begun settings key) before) entry.0 lack)
  lack_kept past before entry more LacksNothing split is kept =
      let t = after_all (table_begun settings key) before in
      past_kept past (outs (step false t entry.0))
      (step_kept reads up false t entry.0 (λ goes. tells settings key all before entry more split (nothing_not entry.1 is) goes) kept)
  lack_kept past before entry more LacksAll split is kept =
      past_kept past (Report notes.NoMemory ∷ []) (quiet_kept (Report notes.NoMemory ∷ []) refl kept)
  lack_kept past before entry more LacksHost split is kept =
      let t = after_all (table_begun settings key) before in
      past_kept past (outs (step true t entry.0))
      (step_kept reads up true t entry.0 (λ goes. tells settings key all before entry more split (host_not entry.1 is) goes) kept)

  -- these entries of the run, behind those before, and with those after
  pub rest_kept : (rest before after_these : List Entry) (past : List Action) → all ≡ before ++ (rest ++ after_these) →
      KeptAt (WasBrought settings key all) key then_lines past (after_all (table_begun settings key) before) →
      KeptAt (WasBrought settings key all) key then_lines (past ++ all_outs (after_all (table_begun settings key) before) rest)
      (after_all (after_all (table_begun settings key) before) rest)
  rest_kept [] before after_these past split kept = same_past (after_all (table_begun settings key) before) (sym (append-nil past)) kept
  rest_kept (entry ∷ rest) before after_these past split kept =
      let begin = table_begun settings key in
      let t = after_all begin before in
      let last : after_all begin (before ++ entry ∷ []) ≡ after t entry = after_then begin before (entry ∷ []) in
      same_past (after_all (after t entry) rest) (append_assoc past (outs_at t entry) (all_outs (after t entry) rest))
      (subst (λ t. KeptAt (WasBrought settings key all) key then_lines ((past ++ outs_at (after_all begin before) entry) ++ all_outs t rest) (after_all t rest)) last
      (rest_kept rest (before ++ entry ∷ []) after_these (past ++ outs_at t entry) (split ∙ sym (append_assoc before (entry ∷ []) (rest ++ after_these)))
      (subst (λ t. KeptAt (WasBrought settings key all) key then_lines (past ++ outs_at (after_all begin before) entry) t) (sym last)
      (lack_kept past before entry (rest ++ after_these) entry.1 split refl kept))))

-- a whole run
pub run_kept : LinkReads → IsReadUp begun → (settings : Settings) (key : List ℕ) (entries : List Entry) →
    KeptAt (WasBrought settings key entries) key [] (all_outs (table_begun settings key) entries) (after_all (table_begun settings key) entries)
run_kept reads up settings key entries =
    rest_kept reads up settings key entries entries [] [] [] (sym (append-nil entries)) (begun_kept (WasBrought settings key entries) settings key)

-- the entries behind a front of a run, since then
pub later_kept : LinkReads → IsReadUp begun → (settings : Settings) (key : List ℕ) (before more : List Entry) →
    KeptAt (WasBrought settings key (before ++ more)) key (lines_of (after_all (table_begun settings key) before).clients)
    (all_outs (table_begun settings key) before ++ all_outs (after_all (table_begun settings key) before) more)
    (after_all (after_all (table_begun settings key) before) more)
later_kept reads up settings key before more =
    rest_kept reads up settings key (before ++ more) more before [] (all_outs (table_begun settings key) before) (ap (λ entries. before ++ entries) (sym (append-nil more)))
    (since_now (after_all (table_begun settings key) before)
    (rest_kept reads up settings key (before ++ more) before [] more [] refl (begun_kept (WasBrought settings key (before ++ more)) settings key)))
