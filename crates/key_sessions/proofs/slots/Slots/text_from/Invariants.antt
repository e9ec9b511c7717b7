use Rattle.key_sessions.specs.Slots.{NoText}
use Rattle.key_sessions.proofs.slots.Slots.text_from.Given as goal

abbrev pub invariant-loop-number : goal.invariant-loop-number
invariant-loop-number g l = NoText l.self l.from l.number
