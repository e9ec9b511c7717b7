use Rattle.std.proofs.Common.{◌≡◌, ◌*◌, length, take}
use Rattle.std.specs.Prelude.{map, flat_map}
use Rattle.aes_core.specs.KeyExpansion.{key_words}
use Rattle.aes_core.specs.internal.Words.{word_bytes}
use Rattle.aes_core.proofs.schedule.expand.Given as goal

abbrev pub invariant-key : goal.invariant-key
invariant-key l =
    (length l.words ≡ 60)
    × (map word_bytes (take l.i l.words) ≡ key_words l.key l.i)
    × (flat_map word_bytes (take l.i l.words) ≡ take (4 * l.i) l.key)

abbrev pub invariant-rest : goal.invariant-rest
invariant-rest l =
    (length l.words ≡ 60)
    × (map word_bytes (take l.i l.words) ≡ key_words l.key l.i)
    × (flat_map word_bytes (take l.key_len l.words) ≡ l.key)
