use Rattle.std.proofs.Common.{◌≡◌, ℕ, List, ◌∷◌, ◌++◌, ◌∙◌, true, subst}
use Rattle.std.specs.Prelude.{Some}
use Rattle.std.specs.String.{string_bytes}
use Rattle.schedule_text.specs.declared.kind.TextKind.{TextKind}
use Rattle.vpn_base.specs.Lines.{Line}
use Rattle.route_file.specs.Progress.{outcome_of, outcome_with, Ends}
use Rattle.route_file.specs.internal.State.{progress_of}
use Rattle.route_file.proofs.Readings.{on_ok, if_refused, ended_ok, ended_refused}
use Rattle.route_file.proofs.reader.RouteReader.end_line.Goals as goal

pub returns-clause-ok : goal.returns-clause-ok
returns-clause-ok c =
    let p = progress_of c.self.inside.state c.self.inside.kept.items in
    let q = progress_of c.take_line-taken.new.self c.clear.new.self.items in
    let body : c.as_slice.result.now ≡ c.self.inside.kept.items ++ c.args.end.now = c.as_slice.ensures.value ∙ c.in-Ok.ensures.items in
    rw (← c.self.view_is) (on_ok c.take_line-taken.result
    (λ step. ended_ok p q c.args.end.now c.self.invariant.one_line c.requires c.clear.ensures.items
    (λ rest. subst (λ (b : List ℕ). outcome_of p (record { body = b; ended = true } ∷ rest) ≡ outcome_of q rest) body (step rest)))
    c.take_line-taken.ensures.ok)

pub returns-clause-refused : goal.returns-clause-refused
returns-clause-refused c =
    let p = progress_of c.self.inside.state c.self.inside.kept.items in
    let body : c.as_slice.result.now ≡ c.self.inside.kept.items ++ c.args.end.now = c.as_slice.ensures.value ∙ c.in-Ok.ensures.items in
    let printed = string_bytes c.take_line-taken.new.self.text in
    let P : ℕ → TextKind → Type 0 = λ line kind. (rest : List Line) →
    Ends (outcome_of p (record { body = c.as_slice.result.now; ended = true } ∷ rest)) printed (Some (line, kind)) in
    let Q : ℕ → TextKind → Type 0 = λ line kind. (more : List ℕ) → Ends (outcome_with p (c.args.end.now ++ 10 ∷ more)) printed (Some (line, kind)) in
    rw (← c.self.view_is) (if_refused P Q c.take_line-taken.result
    (λ line kind step. ended_refused p c.args.end.now printed (Some (line, kind)) c.self.invariant.one_line c.requires
    (λ rest. subst (λ (b : List ℕ). Ends (outcome_of p (record { body = b; ended = true } ∷ rest)) printed (Some (line, kind))) body (step rest)))
    c.take_line-taken.ensures.refused)
