use Rattle.std.proofs.Common.{◌==◌, refl}
use Rattle.schedule_text.proofs.Parts.{has_parts}
use Rattle.schedule_text.proofs.seal_lines.is_end.Goals as goal

pub returns-in-Some : goal.returns-in-Some
returns-in-Some c = rw c.in-Some.is (rw (has_parts (λ b. b == 32) c.in-Some.field-0.now) refl)
