use Rattle.std.proofs.Common.{◌==◌}
use Rattle.schedule_text.proofs.Parts.{more_than_one}
use Rattle.schedule_text.proofs.words.one_word.Goals as goal

pub returns-in-Some-split_once : goal.returns-in-Some-split_once
returns-in-Some-split_once c =
    rw c.in-Some.is (more_than_one (λ b. b == 32) c.in-Some.text.now c.in-Some-split_once.field-0.0.now c.in-Some-split_once.field-0.1.now c.in-Some-split_once.ensures)
