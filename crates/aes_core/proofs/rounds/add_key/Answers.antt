use Rattle.std.proofs.Common.{◌++◌, ◌+◌, get_or}
use Rattle.aes_core.proofs.WordBytes.{word_bytes-xor}
use Rattle.aes_core.proofs.rounds.add_key.Goals as goal

pub returns : goal.returns
returns c =
    let state = c.args.state in
    let words = c.args.words.now in
    let at = c.args.at in
    λ i. word_bytes-xor state.a (get_or words at 0) i
    ++ word_bytes-xor state.b (get_or words (at + 1) 0) i
    ++ word_bytes-xor state.c (get_or words (at + 2) 0) i
    ++ word_bytes-xor state.d (get_or words (at + 3) 0) i
