use Rattle.std.proofs.Common.{refl, ◌∙◌, arith}
use Rattle.tls_crypt.specs.StaticKey.{begin_line, static_key}
use Rattle.tls_crypt.proofs.FirstLine.{key_lines_first, key_lines_none}
use Rattle.tls_crypt.proofs.KeyLines.{begin_found, begin_missing, begin_passed}
use Rattle.tls_crypt.proofs.static_key.behind_begin.Goals as goal

pub lines-init : goal.lines-init
unfolding static_key
lines-init c = (refl, omega arith)

pub returns-then-eq-clause-found : goal.returns-then-eq-clause-found
unfolding begin_line
returns-then-eq-clause-found c =
    c.lines.invariant.0 ∙ begin_found c.lines.number _ _ _ (key_lines_first _ _ _ c.in-Some.ensures.first) c.if-eq.ensures

pub lines-preserved : goal.lines-preserved
unfolding begin_line
lines-preserved c = (
  c.lines.invariant.0 ∙ begin_passed c.lines.number _ _ _ (key_lines_first _ _ _ c.in-Some.ensures.first) c.if-eq.ensures,
  omega (arith, c.lines.invariant.1, c.in-Some.ensures.shorter),
)

pub returns-clause-fault : goal.returns-clause-fault
returns-clause-fault c = c.lines.invariant.0 ∙ begin_missing c.lines.number _ (key_lines_none _ (c.in_default.ensures.none.0 refl))
