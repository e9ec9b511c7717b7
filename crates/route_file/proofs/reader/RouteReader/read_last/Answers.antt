use Rattle.std.proofs.Common.{◌≡◌, ℕ, ◌<◌, ◌∷◌, [], ◌∙◌, List, length, arith, subst, false}
use Rattle.std.specs.Prelude.{Some, None}
use Rattle.std.proofs.lemmas.Bool.Decides.{nat_tests}
use Rattle.std.proofs.lemmas.List.{nil_from_length}
use Rattle.std.specs.String.{string_bytes}
use Rattle.schedule_text.specs.declared.kind.TextKind.{TextKind}
use Rattle.vpn_base.specs.Lines.{Line}
use Rattle.route_file.specs.Progress.{outcome_of, outcome_with, Ends}
use Rattle.route_file.specs.internal.State.{progress_of}
use Rattle.route_file.proofs.Readings.{on_ok, if_refused, finished, last_ok, no_line_left}
use Rattle.route_file.proofs.reader.RouteReader.read_last.Goals as goal

pub returns-then-is_empty-clause-ok : goal.returns-then-is_empty-clause-ok
returns-then-is_empty-clause-ok c =
    let p = progress_of c.self.inside.state c.self.inside.kept.items in
    let zero : length c.self.inside.kept.items ≡ 0 = grind (arith, nat_tests) in
    let empty : c.self.inside.kept.items ≡ [] = nil_from_length c.self.inside.kept.items zero in
    rw (← c.self.view_is) (finished p empty)

pub returns-clause-ok : goal.returns-clause-ok
returns-clause-ok c =
    let p = progress_of c.self.inside.state c.self.inside.kept.items in
    let q = progress_of c.take_line-taken.new.self [] in
    let some : 0 < length c.self.inside.kept.items = grind (arith, nat_tests) in
    rw (← c.self.view_is) (on_ok c.take_line-taken.result
    (λ step. last_ok p (record { printed = q.printed; fault = None }) c.self.invariant.one_line some
    (subst (λ (b : List ℕ). outcome_of p (record { body = b; ended = false } ∷ []) ≡ outcome_of q []) c.as_slice.ensures.value (step []) ∙ no_line_left q))
    c.take_line-taken.ensures.ok)

pub returns-clause-refused : goal.returns-clause-refused
returns-clause-refused c =
    let p = progress_of c.self.inside.state c.self.inside.kept.items in
    let printed = string_bytes c.take_line-taken.new.self.text in
    let some : 0 < length c.self.inside.kept.items = grind (arith, nat_tests) in
    let P : ℕ → TextKind → Type 0 = λ line kind. (rest : List Line) →
    Ends (outcome_of p (record { body = c.as_slice.result.now; ended = false } ∷ rest)) printed (Some (line, kind)) in
    let Q : ℕ → TextKind → Type 0 = λ line kind. Ends (outcome_with p []) printed (Some (line, kind)) in
    rw (← c.self.view_is) (if_refused P Q c.take_line-taken.result
    (λ line kind step. last_ok p (record { printed = printed; fault = Some (line, kind) }) c.self.invariant.one_line some
    (subst (λ (b : List ℕ). Ends (outcome_of p (record { body = b; ended = false } ∷ [])) printed (Some (line, kind))) c.as_slice.ensures.value (step [])))
    c.take_line-taken.ensures.refused)
