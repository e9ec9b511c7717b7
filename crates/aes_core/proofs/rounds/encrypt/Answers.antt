use Rattle.std.proofs.Common.{arith}
use Rattle.aes_core.specs.internal.Schedule.{schedule_words}
use Rattle.aes_core.specs.internal.Words.{state_bytes}
use Rattle.aes_core.proofs.RoundSteps.{round_key_of, rounds_next, rounds_none}
use Rattle.aes_core.proofs.rounds.encrypt.Goals as goal

pub returns : goal.returns
returns c =
    let words = c.args.words.now in
    let nr = c.args.rounds in
    let ws = schedule_words words nr in
    let input = state_bytes c.args.block in
    let none = rounds_none ws input _ _ c.add_key-start.ensures (round_key_of words nr 0 0 (omega arith) (omega arith) (omega arith)) in
    let one = rounds_next ws input _ _ _ 0 1 (omega arith) none c.round.ensures (round_key_of words nr 1 4 (omega arith) (omega arith) (omega arith)) in
    let two = rounds_next ws input _ _ _ 1 2 (omega arith) one c.round-2.ensures (round_key_of words nr 2 8 (omega arith) (omega arith) (omega arith)) in
    c.finish.ensures input two
