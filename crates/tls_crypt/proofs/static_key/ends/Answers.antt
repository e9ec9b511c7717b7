use Rattle.std.proofs.Common.{refl}
use Rattle.tls_crypt.specs.StaticKey.{end_line}
use Rattle.tls_crypt.proofs.FirstLine.{key_lines_first, key_lines_none}
use Rattle.tls_crypt.proofs.KeyLines.{body_end, body_unended}
use Rattle.tls_crypt.proofs.static_key.ends.Goals as goal

pub returns-in-Some : goal.returns-in-Some
unfolding end_line
returns-in-Some c = λ before. body_end before _ _ c.in-Some.line.now c.eq.result (key_lines_first _ _ _ c.in-Some.ensures.first) c.eq.ensures

pub returns-in-None : goal.returns-in-None
returns-in-None c = λ before. body_unended before _ (key_lines_none _ (c.in-None.ensures.none.0 refl))
