use Rattle.std.proofs.Common.{◌≡◌, ◌+◌, ◌≤◌, ◌<◌, ◌∙◌, [], arith, ap, refl, sym}
use Rattle.std.specs.Prelude.{Ok, Err}
use Rattle.schedule_text.specs.declared.kind.TextKind.TheVariants as kinds
use Rattle.schedule_text.specs.RouteLine.{route_line}
use Rattle.vpn_base.specs.Lines.{Line, size}
use Rattle.route_file.specs.Output.{judged, longest_file}
use Rattle.route_file.specs.internal.State.{progress_of}
use Rattle.route_file.proofs.Steps.{past_limit, within_limit, refused_at, read_on}
use Rattle.route_file.proofs.state.State.take_line.Goals as goal

pub returns-then-size-self-clause-refused : goal.returns-then-size-self-clause-refused
returns-then-size-self-clause-refused c =
    let line : Line = record { body = c.args.body.now; ended = c.args.ended } in
    let p = progress_of c.args.self.now [] in
    let past : longest_file < c.args.self.now.bytes + size line = omega (arith, c.line_size-size.ensures) in
    rw c.fault.ensures (refused_at p line kinds.Long (past_limit (c.args.self.now.bytes + size line) line past))

pub returns-in-Err-Why-clause-refused : goal.returns-in-Err-Why-clause-refused
returns-in-Err-Why-clause-refused c =
    let line : Line = record { body = c.args.body.now; ended = c.args.ended } in
    let p = progress_of c.args.self.now [] in
    let fits : c.args.self.now.bytes + size line ≤ longest_file = omega (arith, c.line_size-size.ensures) in
    let faulty : judged (c.args.self.now.bytes + size line) line ≡ Err c.in-Err-Why.kind =
    within_limit (c.args.self.now.bytes + size line) line fits ∙ (ap route_line (sym c.line_content.ensures) ∙ (rw c.in-Err-Why.field-0-is at c.in-Err-Why.ensures.exact)) in
    rw (c.fault-in-Err-Why.ensures, c.in-Err-Why.kind-is) (refused_at p line c.in-Err-Why.kind faulty)

pub returns-clause-ok : goal.returns-clause-ok
returns-clause-ok c =
    let line : Line = record { body = c.args.body.now; ended = c.args.ended } in
    let p = progress_of c.args.self.now [] in
    let fits : c.args.self.now.bytes + size line ≤ longest_file = omega (arith, c.line_size-size.ensures) in
    let good : judged (c.args.self.now.bytes + size line) line ≡ Ok c.in-Ok.line =
    within_limit (c.args.self.now.bytes + size line) line fits ∙ (ap route_line (sym c.line_content.ensures) ∙ c.in-Ok.ensures.exact) in
    let q = progress_of (record c.apply.new.self { count = c.apply.new.self.count + 1; bytes = c.apply.new.self.bytes + c.line_size-size.result }) [] in
    read_on p q line c.in-Ok.line good c.in-Ok-apply.ensures.printed c.in-Ok-apply.ensures.table (ap (λ n. n + 1) c.apply.ensures.count)
    (rw (c.apply.ensures.bytes, c.line_size-size.ensures) refl)
