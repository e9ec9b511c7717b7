use Rattle.std.proofs.Common.{◌==◌}
use Rattle.address_text.proofs.Parts.{three_parts}
use Rattle.address_text.proofs.two_parts.Goals as goal

pub returns-in-Some : goal.returns-in-Some
returns-in-Some c =
    three_parts (λ b. b == 58) c.args.word.now c.in_ok-ip.ip.now c.in_ok-ip.port.now c.in-Some.field-0.0.now c.in-Some.field-0.1.now
    c.in_ok-ip.ensures c.in-Some.ensures
