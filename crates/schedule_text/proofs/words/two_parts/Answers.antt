use Rattle.std.proofs.Common.{◌==◌}
use Rattle.schedule_text.proofs.Parts.{more_than_two}
use Rattle.schedule_text.proofs.words.two_parts.Goals as goal

pub returns-in-Some-split_once : goal.returns-in-Some-split_once
returns-in-Some-split_once c =
    more_than_two (λ b. b == c.args.byte) c.args.text.now c.in-Some.first.now c.in-Some.rest.now
    c.in-Some-split_once.field-0.0.now c.in-Some-split_once.field-0.1.now c.in-Some.ensures c.in-Some-split_once.ensures
