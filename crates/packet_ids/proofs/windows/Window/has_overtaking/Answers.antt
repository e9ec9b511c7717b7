use Rattle.std.proofs.Common.{◌≡◌, ℕ, ◌+◌, ◌-◌, Bool, false, ap, sym, ◌∙◌, arith}
use Rattle.std.specs.Prelude.{◌||◌}
use Rattle.std.specs.List.{list_any, range_with_len}
use Rattle.packet_ids.specs.Window.{Kept, has_old}
use Rattle.packet_ids.proofs.Ring.{any_next}
use Rattle.packet_ids.proofs.windows.Window.has_overtaking.Goals as goal

pub loop-i-preserved : goal.loop-i-preserved
loop-i-preserved c =
    let w = c.args.self.now in
    let i = c.loop-i.i in
    let p : ℕ → Bool = has_old w c.args.now in
    let rest : Bool = list_any p (range_with_len (i + 1 + 1) (w.greatest - (i + 1))) in
    let most : c.self.inside.greatest ≡ w.greatest = ap (λ (k : Kept). k.greatest) c.self.view_is in
    let next = any_next p i w.greatest (omega (arith, most, c.loop-i-test.true)) in
    let none : p (i + 1) ≡ false = sym c.has_old.ensures ∙ c.if-has_old.false in
    sym (next ∙ ap (λ (b : Bool). b || rest) none) ∙ c.loop-i.invariant
