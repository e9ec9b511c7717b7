use Rattle.std.proofs.Common.{◌≡◌, ◌+◌, ◌-◌, ◌*◌, arith}
use Rattle.aes_core.specs.internal.Schedule.{schedule_words}
use Rattle.aes_core.proofs.RoundSteps.{round_key_of, rounds_last, rounds_next}
use Rattle.aes_core.proofs.rounds.finish.Goals as goal

pub pairs-init : goal.pairs-init
pairs-init c = λ input two.
    let words = c.args.words.now in
    let nr = c.args.rounds in
    rounds_next (schedule_words words nr) input _ _ _ 2 3 (omega arith) two c.round-state.ensures
    (round_key_of words nr 3 12 (omega arith) (omega arith) (omega arith))

pub pairs-preserved : goal.pairs-preserved
pairs-preserved c = λ input two.
    let words = c.args.words.now in
    let nr = c.args.rounds in
    let ws = schedule_words words nr in
    let pair = c.pairs.pair in
    let one = rounds_next ws input _ _ _ (2 * pair - 1) (2 * pair) (omega arith) (c.pairs.invariant input two) c.round-state-in-pairs.ensures
    (round_key_of words nr (2 * pair) (8 * pair) (omega arith) (omega arith) (omega arith)) in
    rounds_next ws input _ _ _ (2 * pair) (2 * (pair + 1) - 1) (omega arith) one c.round-state-in-pairs-2.ensures
    (round_key_of words nr (2 * (pair + 1) - 1) (8 * pair + 4) (omega arith) (omega arith) (omega arith))

pub returns : goal.returns
returns c = λ input two.
    let words = c.args.words.now in
    let nr = c.args.rounds in
    let done : 2 * c.pairs.pair - 1 ≡ nr - 1 = omega (arith, c.pairs.auto.pair-end (omega arith)) in
    rounds_last (schedule_words words nr) input _ _ _ (2 * c.pairs.pair - 1) nr done (c.pairs.invariant input two) c.final_round.ensures
    (round_key_of words nr nr (4 * nr) (omega arith) (omega arith) (omega arith))
