use Rattle.std.proofs.Common.{[], ◌∷◌, ◌++◌, bit_xor, get_or, refl, take, ap, ◌∙◌}
use Rattle.std.specs.Int.{byte_at}
use Rattle.aes_core.specs.internal.Columns.{mixed_part}
use Rattle.aes_core.specs.Field.{xor_bytes}
use Rattle.aes_core.specs.SBox.{sbox}
use Rattle.aes_core.specs.internal.SharedRounds.{two_rounds}
use Rattle.aes_core.specs.internal.Words.{state_bytes, word_bytes}
use Rattle.aes_core.proofs.SharedFacts.{round_one, round_two}
use Rattle.aes_core.proofs.shared.SharedRounds.new.Goals as goal

pub returns : goal.returns
returns c = record {
  gives = λ last.
      let words = c.args.words.now in
      let block = c.counter_block.result in
      let column = xor_bytes (word_bytes c.column_but_row3.result) (mixed_part 3 (sbox (bit_xor last (byte_at 0 (get_or words 3 0))))) in
      let one = round_one words block c.add_key-a.result c.column_but_row3.result c.column-second.result c.column-third.result c.column-fourth.result last
      c.add_key-a.ensures c.column_but_row3.ensures c.column-second.ensures c.column-third.ensures c.column-fourth.ensures in
      round_two words (take 15 (state_bytes block) ++ last ∷ []) column c.column-second.result c.column-third.result c.column-fourth.result
      c.column_but_row0.result c.column_but_row3-2.result c.column_but_row2.result c.column_but_row1.result
      (get_or column 0 0) (get_or column 1 0) (get_or column 2 0) (get_or column 3 0) refl one
      c.column_but_row0.ensures c.column_but_row3-2.ensures c.column_but_row2.ensures c.column_but_row1.ensures
      ∙ ap (λ bytes. two_rounds words (take 15 bytes ++ last ∷ [])) c.counter_block.ensures;
}
