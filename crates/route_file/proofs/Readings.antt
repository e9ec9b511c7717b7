-- What the outcome of a file is once more of it was read.
use Rattle.std.proofs.Common.{◌≡◌, ℕ, ◌<◌, List, [], ◌∷◌, ◌++◌, length, append-nil, append_assoc, refl, ap, sym, ◌∙◌}
use Rattle.std.specs.Prelude.{Option, None, Result, Ok, Err, true, false, OnOk, IfErr}
use Rattle.vpn_base.specs.declared.errors.Or.{Or}
use Rattle.vpn_base.specs.declared.errors.Or.TheVariants.{Memory, Why}
use Rattle.schedule_text.specs.declared.kind.TextKind.{TextKind}
use Rattle.route_file.specs.declared.state.RouteFault.{RouteFault}
use Rattle.vpn_base.specs.Lines.{Line, lines_of}
use Rattle.route_file.specs.Output.{Outcome, outcome_from, printed_before, empty_table, routes}
use Rattle.route_file.specs.Progress.{Progress, outcome_of, outcome_with, Ends}
use Rattle.route_file.specs.internal.Within.{IsOneLine, Faults}
use Rattle.route_file.proofs.Cuts.{lines_ended, lines_last, lines_none}

pub on_ok : {A E P Q : Type 0} (r : Result A E) → (P → Q) → OnOk r P → OnOk r Q
on_ok (Ok x) f h = f h
on_ok (Err e) f h = tt

refuses : (P Q : ℕ → TextKind → Type 0) (e : Or RouteFault) → ((line : ℕ) (kind : TextKind) → P line kind → Q line kind) → Faults e P → Faults e Q
refuses P Q Memory f h = tt
refuses P Q (Why fault) f h = f fault.line fault.kind h

pub if_refused : {A : Type 0} (P Q : ℕ → TextKind → Type 0) (r : Result A (Or RouteFault)) → ((line : ℕ) (kind : TextKind) → P line kind → Q line kind) →
    IfErr r (λ e. Faults e P) → IfErr r (λ e. Faults e Q)
if_refused P Q (Ok x) f h = tt
if_refused P Q (Err e) f h = refuses P Q e f h

-- a line that was kept and ends here was taken
pub ended_ok : (p q : Progress) (end : List ℕ) → IsOneLine p.kept → IsOneLine end → q.kept ≡ [] →
    ((rest : List Line) → outcome_of p (record { body = p.kept ++ end; ended = true } ∷ rest) ≡ outcome_of q rest) →
    (more : List ℕ) → outcome_with p (end ++ 10 ∷ more) ≡ outcome_with q more
unfolding outcome_with
ended_ok p q end one_kept one_end empty step more =
    rw (lines_ended p.kept end more one_kept one_end, empty) (step (lines_of more))

-- a line that was kept and ends here is refused
pub ended_refused : (p : Progress) (end printed : List ℕ) (fault : Option (ℕ × TextKind)) → IsOneLine p.kept → IsOneLine end →
    ((rest : List Line) → Ends (outcome_of p (record { body = p.kept ++ end; ended = true } ∷ rest)) printed fault) →
    (more : List ℕ) → Ends (outcome_with p (end ++ 10 ∷ more)) printed fault
unfolding outcome_with
ended_refused p end printed fault one_kept one_end step more =
    rw (lines_ended p.kept end more one_kept one_end) (step (lines_of more))

-- what was kept is read together with what comes
pub kept_ok : (p q : Progress) (front : List ℕ) → q.kept ≡ p.kept ++ front →
    ((rest : List Line) → outcome_of p rest ≡ outcome_of q rest) →
    (more : List ℕ) → outcome_with p (front ++ more) ≡ outcome_with q more
unfolding outcome_with
kept_ok p q front kept same more =
    rw kept (ap (λ text. outcome_of p (lines_of text)) (sym (append_assoc p.kept front more)) ∙ same (lines_of (p.kept ++ front ++ more)))

-- no line is left
pub no_line_left : (p : Progress) → Ends (outcome_of p []) p.printed None
unfolding outcome_from
no_line_left p = rw (append-nil p.printed) refl

-- nothing is left
pub finished : (p : Progress) → p.kept ≡ [] → Ends (outcome_with p []) p.printed None
unfolding outcome_with
finished p empty = rw (empty, lines_none) (no_line_left p)

-- the last line is left
pub last_ok : (p : Progress) (o : Outcome) → IsOneLine p.kept → 0 < length p.kept →
    outcome_of p (record { body = p.kept; ended = false } ∷ []) ≡ o → outcome_with p [] ≡ o
unfolding outcome_with
last_ok p o one some step = rw (append-nil p.kept, lines_last p.kept one some) step

-- nothing was read yet
pub begun_at : (p : Progress) → p.printed ≡ [] → p.table ≡ empty_table → p.count ≡ 0 → p.bytes ≡ 0 → p.kept ≡ [] →
    (text : List ℕ) → outcome_with p text ≡ routes text
unfolding outcome_with routes
begun_at p printed table count bytes kept text = rw (printed, table, count, bytes, kept) refl

-- what was printed is forgotten
pub cleared_at : (p : Progress) (rest : List ℕ) → outcome_with p rest ≡ printed_before p.printed (outcome_with (record p { printed = [] }) rest)
unfolding outcome_with
cleared_at p rest = refl
