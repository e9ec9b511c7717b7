use Rattle.std.proofs.Common.{◌≡◌, ◌+◌, ◌%◌, ◌^◌}
use Rattle.aes_core.specs.CounterMode.{output_blocks}
use Rattle.aes_core.specs.Field.{xor_bytes}
use Rattle.aes_core.specs.internal.SharedRounds.{IsShared}
use Rattle.aes_core.proofs.AesKey.ctr.Given as goal

abbrev pub invariant-turns : goal.invariant-turns
invariant-turns l =
    (l.bytes ≡ xor_bytes l.fn.bytes (output_blocks l.self l.initial.counter l.i))
    × (l.counter ≡ (l.initial.counter + l.i) % 2 ^ 128)
    × IsShared l.shared l.self-inside.words l.counter
