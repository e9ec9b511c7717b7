use Rattle.std.proofs.Common.{◌≡◌, ℕ, ◌-◌, ◌*◌, List}
use Rattle.aes_core.specs.Cipher.{state_after}
use Rattle.aes_core.specs.internal.Schedule.{schedule_words}
use Rattle.aes_core.specs.internal.Words.{state_bytes}
use Rattle.aes_core.proofs.rounds.finish.Given as goal

abbrev pub invariant-pairs : goal.invariant-pairs
invariant-pairs l =
    (input : List ℕ) → state_bytes l.fn.two ≡ state_after (schedule_words l.words l.rounds) input 2
    → state_bytes l.state ≡ state_after (schedule_words l.words l.rounds) input (2 * l.pair - 1)
