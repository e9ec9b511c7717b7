use Rattle.std.proofs.Common.{◌≡◌, ◌-◌, ◌++◌, length, take, ap, subst, ◌∙◌, refl, arith, length-take-le, length-append, length-drop}
use Rattle.vpn_base.specs.Files.{Copied, Holding}
use Rattle.vpn_top.proofs.Fronts.{more_read, put_behind}
use Rattle.vpn_top.proofs.front.read_front.Goals as goal

pub loop-at-preserved : goal.loop-at-preserved
loop-at-preserved g c =
    let at = c.loop-at.at in
    let buffer = c.loop-at.buffer in
    let holding = g.F.Files.holds c.args.files.now c.args.name.now in
    let whole = put_behind at (length buffer - at) buffer c.take.new.into c.loop-at.invariant.within refl in
    let copied = subst (λ (h : Holding). Copied h at c.in-Ok.n c.take.new.into) (c.loop-at.invariant.kept c.args.name.now) c.in-Ok.ensures.copied in
    let taken : length c.take.new.into ≡ length buffer - at = omega (arith, c.take.auto.into, length-drop at buffer, c.loop-at.invariant.within) in
    let size : length (take at buffer ++ c.take.new.into) ≡ length buffer = omega (arith, length-append (take at buffer) c.take.new.into, length-take-le at buffer c.loop-at.invariant.within, taken, c.loop-at.invariant.within) in
    record {
      front = more_read holding at c.in-Ok.n (take at buffer) c.take.new.into _ (length-take-le at buffer c.loop-at.invariant.within) (omega (arith, c.in-Ok.ensures.within, c.take.auto.into)) whole c.loop-at.invariant.front copied;
      size = ap length whole ∙ size ∙ c.loop-at.invariant.size;
      within = omega (arith, ap length whole, size, c.in-Ok.ensures.within, length-drop at buffer, c.loop-at.invariant.within);
      kept = λ n. c.take.ensures.kept n ∙ c.loop-at.invariant.kept n;
      count = omega (arith, c.loop-at.invariant.count, c.take.ensures.never_falls);
    }
