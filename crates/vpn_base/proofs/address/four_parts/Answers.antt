use Rattle.std.proofs.Common.{◌==◌}
use Rattle.vpn_base.proofs.Splitting.{five_parts}
use Rattle.vpn_base.proofs.address.four_parts.Goals as goal

pub returns-in-Some : goal.returns-in-Some
returns-in-Some c =
    five_parts (λ b. b == 46) c.args.text.now c.in_ok-first.first.now c.in_ok-first.rest.now c.in_ok-second.second.now c.in_ok-second.rest.now
    c.in_ok-third.third.now c.in_ok-third.fourth.now c.in-Some.field-0.0.now c.in-Some.field-0.1.now
    c.in_ok-first.ensures c.in_ok-second.ensures c.in_ok-third.ensures c.in-Some.ensures
