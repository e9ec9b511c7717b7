use Rattle.std.proofs.Common.{◌<◌, get_or, length, ap, arith}
use Rattle.std.proofs.lemmas.Grind.{common_steps}
use Rattle.std.proofs.lemmas.List.{get_or_default}
use Rattle.std.proofs.lemmas.List.Edits.{map_over_more}
use Rattle.std.specs.Int.Bits.{bit_xor}
use Rattle.hmac_kit.proofs.hmac.masked.Goals as goal

pub loop-byte-preserved : goal.loop-byte-preserved
loop-byte-preserved c =
    let within : c.loop-byte.byte-index < length c.loop-byte.byte-items = grind (arith, common_steps, ap length c.loop-byte.invariant) in
    map_over_more (λ byte. bit_xor byte c.args.pad) c.args.block c.loop-byte.byte-items c.loop-byte.byte-index
    (get_or c.loop-byte.byte-items c.loop-byte.byte-index 0) (omega arith) c.loop-byte.invariant (get_or_default c.loop-byte.byte-items c.loop-byte.byte-index _ _ within)
