use Rattle.std.proofs.Common.{[], ◌∷◌, ◌∙◌, arith}
use Rattle.aes_core.specs.Field.{xor_bytes}
use Rattle.aes_core.specs.SBox.{sbox}
use Rattle.aes_core.specs.internal.Words.{word_bytes}
use Rattle.aes_core.proofs.WordBytes.{word_bytes-xor, word_bytes_of}
use Rattle.aes_core.proofs.rounds.final_column.Goals as goal

pub returns : goal.returns
returns c =
    let word = word_bytes_of c.from_be_bytes.result c.sbox.result c.sbox-2.result c.sbox-3.result c.sbox-4.result
    (omega (arith, c.sbox.type_inv)) (omega (arith, c.sbox-2.type_inv)) (omega (arith, c.sbox-3.type_inv)) (omega (arith, c.sbox-4.type_inv))
    c.from_be_bytes.ensures in
    word_bytes-xor c.from_be_bytes.result c.args.key
    ∙ (λ i. xor_bytes (word i) (word_bytes c.args.key))
    ∙ (λ i.
    xor_bytes (c.sbox.ensures i ∷ c.sbox-2.ensures i ∷ c.sbox-3.ensures i ∷ c.sbox-4.ensures i ∷ []) (word_bytes c.args.key))
    ∙ (λ i.
    xor_bytes
    (sbox (c.byte3.ensures i) ∷ sbox (c.byte2.ensures i) ∷ sbox (c.byte1.ensures i) ∷ sbox (c.byte0.ensures i) ∷ [])
    (word_bytes c.args.key))
