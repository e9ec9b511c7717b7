use Rattle.std.proofs.Common.{◌≡◌, ◌*◌, length, ap, arith}
use Rattle.hex.proofs.HexLemmas.{decode_of-ok}
use Rattle.schedule_text.proofs.words.read_bytes.Goals as goal

pub returns-in-Ok-clause-short : goal.returns-in-Ok-clause-short
returns-in-Ok-clause-short c =
    let twice : length c.args.word.now ≡ 2 * length c.in-Ok.bytes.items = (decode_of-ok c.args.word.now c.in-Ok.bytes.items c.in-Ok.ensures.ok).2 in
    let same = ap length c.of-in-Ok.ensures in
    omega arith
