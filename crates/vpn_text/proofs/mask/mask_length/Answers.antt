use Rattle.std.proofs.Common.{◌≡◌, ℕ, Bool, cond, Some, None, ap, sym, ◌∙◌, arith}
use borrow.Author.Tests.{eq-eqb, ne_eqb}
use Rattle.vpn_text.specs.Mask.{length_upto}
use Rattle.vpn_text.proofs.Masks.{found, passed, none_left}
use Rattle.vpn_text.proofs.mask.mask_length.Goals as goal

pub returns-then-mask-mask_number-clause-same : goal.returns-then-mask-mask_number-clause-same
returns-then-mask-mask_number-clause-same c =
    sym (found c.loop-len.len c.args.mask c.loop-len-test.true (c.if-mask-mask_number.true ∙ c.mask_number.ensures)) ∙ c.loop-len.invariant.same

pub loop-len-preserved : goal.loop-len-preserved
loop-len-preserved c = record {
  small = omega arith;
  same = sym (passed c.loop-len.len c.args.mask c.loop-len-test.true (λ is. c.if-mask-mask_number.false (is ∙ sym c.mask_number.ensures))) ∙ c.loop-len.invariant.same;
}

pub returns-then-mask-eq0-clause-same : goal.returns-then-mask-eq0-clause-same
returns-then-mask-eq0-clause-same c =
    let end : c.loop-len.len ≡ 0 = omega arith in
    sym (none_left c.args.mask ∙ ap (λ (b : Bool). cond b (Some 0) None) (eq-eqb c.args.mask 0 c.if-mask-eq0.true))
    ∙ ap (λ (n : ℕ). length_upto n c.args.mask) (sym end) ∙ c.loop-len.invariant.same

pub returns-else-mask-eq0-clause-same : goal.returns-else-mask-eq0-clause-same
returns-else-mask-eq0-clause-same c =
    let end : c.loop-len.len ≡ 0 = omega arith in
    sym (none_left c.args.mask ∙ ap (λ (b : Bool). cond b (Some 0) None) (ne_eqb c.args.mask 0 c.if-mask-eq0.false))
    ∙ ap (λ (n : ℕ). length_upto n c.args.mask) (sym end) ∙ c.loop-len.invariant.same
