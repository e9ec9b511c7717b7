use Rattle.std.proofs.Common.{refl, sym}
use Rattle.tls_crypt.proofs.FirstLine.{key_lines_first, key_lines_none}
use Rattle.tls_crypt.proofs.KeyLines.{body_digits, body_missing, body_others}
use Rattle.tls_crypt.proofs.static_key.digit_line.Goals as goal

pub returns-in-Some-bytes_of-clause-digits : goal.returns-in-Some-bytes_of-clause-digits
returns-in-Some-bytes_of-clause-digits c = λ count before.
    body_digits count before _ _ c.in-Some.line.now c.in-Some-bytes_of.bytes (key_lines_first _ _ _ c.in-Some.ensures.first) (sym c.in-Some-bytes_of.ensures)

pub returns-in-None-bytes_of-clause-others : goal.returns-in-None-bytes_of-clause-others
returns-in-None-bytes_of-clause-others c = λ count before.
    body_others count before _ _ c.in-Some.line.now (key_lines_first _ _ _ c.in-Some.ensures.first) (sym c.in-None-bytes_of.ensures)

pub returns-in-None-clause-others : goal.returns-in-None-clause-others
returns-in-None-clause-others c = λ count before. body_missing count before _ (key_lines_none _ (c.in-None.ensures.none.0 refl))
