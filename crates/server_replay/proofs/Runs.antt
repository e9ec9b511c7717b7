-- A run of a node over the server's definitions is their own run.
use Rattle.std.proofs.Common.{◌≡◌, ◌+◌, ◌≤◌, Bool, true, false, List, [], ◌∷◌, map, refl, ap, ◌∙◌, subst, arith}
use Rattle.std.specs.Prelude.{◌||◌}
use Rattle.std.specs.List.{list_any}
use Rattle.std.proofs.lemmas.Bool.{false≢true}
use Rattle.vpn_links.specs.Actions.{Action, Report}
use Rattle.vpn_links.specs.Steps.{Lack, LacksAll, LacksHost, LacksNothing}
use Rattle.vpn_links.specs.declared.events.Event.{Event}
use Rattle.vpn_links.specs.declared.notes.Note.{Note}
use Rattle.vpn_links.specs.declared.notes.Note.TheVariants as notes
use Rattle.vpn_node.specs.Running as node
use Rattle.server_table.specs.Courses.{outs}
use Rattle.server_table.specs.Runs.{Entry, MayLack, MayRun, after, after_lacking, is_not_learned, needs_host, outs_lacking, run}
use Rattle.server_table.specs.Step.{step}
use Rattle.server_table.specs.Table.{Table}
use Rattle.server_core.specs.Steps.{next_table, told_of}
use Rattle.server_replay.specs.Runs.{LackNothing, events_of, left_out, left_out_in}

-- an entry of a node's run, as the definitions have it
abbrev pub entry_of : node.Entry → Entry
entry_of e = (e.event, e.lack)

-- all of them
abbrev pub entries_of : List node.Entry → List Entry
entries_of entries = map entry_of entries

after_same : (t : Table) (event : Event) (lack : Lack) → node.after_lacking next_table t event lack ≡ after_lacking t event lack
after_same t event LacksNothing = refl
after_same t event LacksAll = refl
after_same t event LacksHost = refl

outs_same : (t : Table) (event : Event) (lack : Lack) → node.outs_lacking told_of t event lack ≡ outs_lacking t event lack
outs_same t event LacksNothing = refl
outs_same t event LacksAll = refl
outs_same t event LacksHost = refl

may_same : (t : Table) (event : Event) (lack : Lack) → node.MayLack MayLack t event lack → MayLack t event lack
may_same t event LacksNothing may = tt
may_same t event LacksAll may = may
may_same t event LacksHost may = may

left_same : (t : Table) (event : Event) (lack : Lack) → node.refused_lacking told_of t event lack ≡ left_out t event lack
left_same t event LacksNothing = refl
left_same t event LacksAll = refl
left_same t event LacksHost = refl

-- it does the same
pub run_same : (t : Table) (es : List node.Entry) → node.run next_table told_of t es ≡ run t (entries_of es)
run_same t [] = refl
run_same t (e ∷ es) =
    ap (λ o. o ∷ node.run next_table told_of (node.after next_table t e) es) (outs_same t e.event e.lack)
    ∙ ap (λ l. outs_lacking t e.event e.lack ∷ l) (run_same (node.after next_table t e) es ∙ ap (λ u. run u (entries_of es)) (after_same t e.event e.lack))

-- there lacks what may
pub may_run : (t : Table) (es : List node.Entry) → node.MayRun next_table MayLack t es → MayRun t (entries_of es)
may_run t [] may = tt
may_run t (e ∷ es) may =
    (may_same t e.event e.lack may.0, subst (λ u. MayRun u (entries_of es)) (after_same t e.event e.lack) (may_run (node.after next_table t e) es may.1))

-- as much is left out
pub left_in_same : (t : Table) (es : List node.Entry) → node.refused_by next_table told_of t es ≡ left_out_in t (entries_of es)
left_in_same t [] = refl
left_in_same t (e ∷ es) =
    ap (λ n. n + node.refused_by next_table told_of (node.after next_table t e) es) (left_same t e.event e.lack)
    ∙ ap (λ n. left_out t e.event e.lack + n) (left_in_same (node.after next_table t e) es ∙ ap (λ u. left_out_in u (entries_of es)) (after_same t e.event e.lack))

-- and it has the same events
pub events_same : (es : List node.Entry) → node.events_of es ≡ events_of (entries_of es)
events_same [] = refl
events_same (e ∷ es) = ap (λ l. e.event ∷ l) (events_same es)

-- ---- where nothing is left out, nothing lacks

note_same : (note : Note) → node.is_not_learned (Report note) ≡ is_not_learned (Report note)
note_same (notes.Malformed kind first) = refl
note_same notes.NotWrapped = refl
note_same (notes.Replayed time id) = refl
note_same (notes.UnknownPeer peer) = refl
note_same (notes.UnknownSession sid) = refl
note_same (notes.UnknownConn conn) = refl
note_same (notes.Full most) = refl
note_same (notes.BadKey a b) = refl
note_same (notes.NotLearned id host) = refl
note_same _ = refl

test_same : (action : Action) → node.is_not_learned action ≡ is_not_learned action
test_same (Report note) = note_same note
test_same _ = refl

counts_by : (action : Action) (actions : List Action) (b : Bool) → node.is_not_learned action ≡ b → (b || list_any is_not_learned actions) ≡ true →
    (list_any is_not_learned actions ≡ true → 1 ≤ node.not_learned actions) → 1 ≤ node.not_learned (action ∷ actions)
counts_by action actions true same is rest = rw same (omega arith)
counts_by action actions false same is rest = rw same (omega (arith, rest is))

told_counts : (actions : List Action) → list_any is_not_learned actions ≡ true → 1 ≤ node.not_learned actions
told_counts [] is = absurd (false≢true is)
told_counts (a ∷ actions) is = counts_by a actions (is_not_learned a) (test_same a) is (told_counts actions)

lacks_none : (t : Table) (event : Event) (lack : Lack) → MayLack t event lack → left_out t event lack ≡ 0 → lack ≡ LacksNothing
unfolding needs_host
lacks_none t event LacksNothing may none = refl
lacks_none t event LacksAll may none = absurd (omega (arith, none))
lacks_none t event LacksHost may none = absurd (omega (arith, none, told_counts (outs (step true t event)) may))

pub nothing_lacks : (t : Table) (entries : List Entry) → MayRun t entries → left_out_in t entries ≡ 0 → LackNothing entries
nothing_lacks t [] may none = tt
nothing_lacks t (entry ∷ entries) may none =
    (lacks_none t entry.0 entry.1 may.0 (omega (arith, none)), nothing_lacks (after t entry) entries may.1 (omega (arith, none)))
