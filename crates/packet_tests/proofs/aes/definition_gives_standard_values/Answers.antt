use Rattle.std.proofs.Common.{refl}
use Rattle.aes_core.specs.Cipher.{cipher, cipher_under, state_after}
use Rattle.aes_core.specs.Field.{product, product_below, times_power}
use Rattle.aes_core.specs.KeyExpansion.{key_expansion, key_words}
use Rattle.aes_core.specs.SBox.{affine, affine_below, inverse, inverse_below, sbox}
use Rattle.packet_tests.proofs.aes.definition_gives_standard_values.Goals as goal

pub returns-clause-key_of_128_bits : goal.returns-clause-key_of_128_bits
unfolding times_power product_below product inverse_below inverse affine_below affine sbox key_words key_expansion state_after cipher_under cipher
returns-clause-key_of_128_bits c = refl

pub returns-clause-key_of_256_bits : goal.returns-clause-key_of_256_bits
unfolding times_power product_below product inverse_below inverse affine_below affine sbox key_words key_expansion state_after cipher_under cipher
returns-clause-key_of_256_bits c = refl
