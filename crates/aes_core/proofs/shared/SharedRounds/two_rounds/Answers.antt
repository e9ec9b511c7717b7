use Rattle.std.proofs.Common.{◌++◌, bit_xor, get_or, ap, ◌∙◌}
use Rattle.aes_core.specs.internal.Columns.{mixed_part}
use Rattle.aes_core.specs.Field.{xor_bytes}
use Rattle.aes_core.specs.SBox.{sbox}
use Rattle.aes_core.specs.internal.Words.{word_bytes}
use Rattle.aes_core.proofs.WordBytes.{word_bytes-xor}
use Rattle.aes_core.proofs.shared.SharedRounds.two_rounds.Goals as goal

pub returns : goal.returns
returns c =
    let s = c.args.self.now in
    let added = c.mixed_row3.ensures ∙ ap (λ n. mixed_part 3 (sbox (bit_xor c.args.last n))) c.byte0.ensures in
    let column = word_bytes-xor s.first c.mixed_row3.result ∙ ap (xor_bytes (word_bytes s.first)) added in
    let a = c.mixed_row0.ensures ∙ ap (λ n. mixed_part 0 (sbox n)) (c.byte3.ensures ∙ ap (λ bs. get_or bs 0 0) column) in
    let b = c.mixed_row3-2.ensures ∙ ap (λ n. mixed_part 3 (sbox n)) (c.byte0-2.ensures ∙ ap (λ bs. get_or bs 3 0) column) in
    let d = c.mixed_row2.ensures ∙ ap (λ n. mixed_part 2 (sbox n)) (c.byte1.ensures ∙ ap (λ bs. get_or bs 2 0) column) in
    let e = c.mixed_row1.ensures ∙ ap (λ n. mixed_part 1 (sbox n)) (c.byte2.ensures ∙ ap (λ bs. get_or bs 1 0) column) in
    let a' = word_bytes-xor s.a c.mixed_row0.result ∙ ap (xor_bytes (word_bytes s.a)) a in
    let b' = word_bytes-xor s.b c.mixed_row3-2.result ∙ ap (xor_bytes (word_bytes s.b)) b in
    let d' = word_bytes-xor s.c c.mixed_row2.result ∙ ap (xor_bytes (word_bytes s.c)) d in
    let e' = word_bytes-xor s.d c.mixed_row1.result ∙ ap (xor_bytes (word_bytes s.d)) e in
    λ i. a' i ++ b' i ++ d' i ++ e' i
