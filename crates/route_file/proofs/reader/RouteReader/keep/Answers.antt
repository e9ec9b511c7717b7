use Rattle.std.proofs.Common.{◌≡◌, ◌+◌, ◌<◌, length, arith, inl, inr, refl, ap, ◌∙◌, length-append}
use Rattle.std.specs.Prelude.{◌⊎◌}
use Rattle.route_file.specs.Output.{longest_file}
use Rattle.route_file.specs.internal.State.{progress_of}
use Rattle.route_file.proofs.Cuts.{one_line_append}
use Rattle.route_file.proofs.Lengths.{never_fits}
use Rattle.route_file.proofs.Readings.{kept_ok}
use Rattle.route_file.proofs.reader.RouteReader.keep.Goals as goal
use Rattle.route_file.proofs.reader.RouteReader.keep.Goals.{then-long-via-then-long, then-long-via-else-long+then-past}

pub returns-then-long-clause-refused : goal.returns-then-long-clause-refused
returns-then-long-clause-refused c =
    let p = progress_of c.self.inside.state c.self.inside.kept.items in
    let n = length c.self.inside.kept.items + length c.args.front.now in
    let sized : (140001 < n) ⊎ (longest_file < c.self.inside.state.bytes + n) =
    elim c.then-long.branch [
      | then-long-via-then-long w ↦ inl (omega arith)
      | then-long-via-else-long+then-past w ↦ inr (omega arith)
    ] in
    let some : 0 < n =
    elim c.then-long.branch [
      | then-long-via-then-long w ↦ omega arith
      | then-long-via-else-long+then-past w ↦ omega arith
    ] in
    rw c.fault.ensures (rw (← c.self.view_is) (never_fits p c.args.front.now c.self.invariant.one_line c.requires sized some))

pub invariant_of-self-2 : goal.invariant_of-self-2
invariant_of-self-2 c =
    let kept = c.in-Ok.ensures.items in
    let long : length c.extend_from_slice.new.self.items ≡ length c.self.inside.kept.items + length c.args.front.now =
    ap length kept ∙ length-append c.self.inside.kept.items c.args.front.now in
    record {
      one_line = rw kept (one_line_append c.self.inside.kept.items c.args.front.now c.self.invariant.one_line c.requires);
      short = omega arith;
      small = omega arith;
      counted = c.self.invariant.counted;
    }

pub returns-clause-ok : goal.returns-clause-ok
returns-clause-ok c =
    let p = progress_of c.self.inside.state c.self.inside.kept.items in
    let q = progress_of c.self.inside.state c.extend_from_slice.new.self.items in
    rw (← c.self.view_is) (kept_ok p q c.args.front.now c.in-Ok.ensures.items (λ rest. refl))
