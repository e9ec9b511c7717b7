use Rattle.std.proofs.Common.{◌≡◌, ◌+◌, ◌*◌, ◌/◌, ◌%◌, ◌^◌, [], ◌∷◌, ◌++◌, length, take, refl, sym, ap, ◌∙◌, arith}
use Rattle.std.proofs.lemmas.Nat.{and_mask}
use Rattle.std.specs.Int.{to_be_bytes, w128}
use Rattle.aes_core.specs.Cipher.{cipher_under}
use Rattle.aes_core.specs.CounterMode.{output_blocks}
use Rattle.aes_core.specs.internal.Schedule.{schedule_words}
use Rattle.aes_core.specs.internal.SharedRounds.{two_rounds}
use Rattle.aes_core.proofs.InPlace.{xor_bytes-nil}
use Rattle.aes_core.proofs.KeyStream.{counter_output, streamed_all, streamed_next}
use Rattle.aes_core.proofs.RoundSteps.{two_rounds_of}
use Rattle.aes_core.proofs.AesKey.ctr.Goals as goal

pub turns-init : goal.turns-init
unfolding output_blocks
turns-init c = (
  sym (xor_bytes-nil c.args.bytes.now),
  omega (arith, c.from_be_bytes-counter.type_inv),
  c.new-shared.ensures,
)

pub turns-preserved : goal.turns-preserved
turns-preserved c =
    let key = c.args.self.now in
    let bytes = c.args.bytes.now in
    let words = c.self.inside.words in
    let nr = c.self.inside.rounds in
    let first = c.from_be_bytes-counter.result in
    let i = c.turns.i in
    let counter = c.turns.counter in
    let input = to_be_bytes w128 counter in
    let two = c.two_rounds-two.ensures ∙ c.turns.invariant.2.gives _
    ∙ ap (λ k. two_rounds words (take 15 input ++ k ∷ [])) (and_mask counter 8) in
    let output = c.finish.ensures input (two_rounds_of words input _ nr (omega arith) (omega arith) two) in (
      c.xor_block.ensures
          ∙ streamed_next key bytes c.turns.bytes _ first i (16 * i) refl (omega arith) c.turns.invariant.0
          (counter_output words nr key _ counter ((first + i) % 2 ^ 128) c.self.invariant c.self.view_is output c.turns.invariant.1),
      omega (arith, c.turns.invariant.1),
      c.next-shared.ensures counter (omega arith) c.turns.invariant.2 refl,
    )

pub returns-then-bytes-gt0 : goal.returns-then-bytes-gt0
returns-then-bytes-gt0 c =
    let key = c.args.self.now in
    let bytes = c.args.bytes.now in
    let words = c.self.inside.words in
    let nr = c.self.inside.rounds in
    let first = c.from_be_bytes-counter.result in
    let i = c.turns.i in
    let whole : 16 * (length bytes / 16) ≡ 16 * i = omega (arith, c.turns.auto.i-end) in
    let output = c.to_block.ensures ∙ c.encrypt-stream.ensures
    ∙ ap (λ input. cipher_under (schedule_words words nr) input nr) c.counter_block.ensures in
    c.xor_front.ensures
    ∙ streamed_next key bytes c.turns.bytes _ first i (16 * (length bytes / 16)) whole (omega arith) c.turns.invariant.0
    (counter_output words nr key _ c.turns.counter ((first + i) % 2 ^ 128) c.self.invariant c.self.view_is output c.turns.invariant.1)
    ∙ streamed_all key bytes c.args.iv first (i + 1) c.from_be_bytes-counter.ensures (omega arith)

pub returns-else-bytes-gt0 : goal.returns-else-bytes-gt0
returns-else-bytes-gt0 c =
    let bytes = c.args.bytes.now in
    c.turns.invariant.0
    ∙ streamed_all c.args.self.now bytes c.args.iv c.from_be_bytes-counter.result c.turns.i c.from_be_bytes-counter.ensures (omega arith)
