use Rattle.std.proofs.Common.{ap, ◌∙◌}
use Rattle.aes_core.specs.Cipher.{cipher_under}
use Rattle.aes_core.specs.internal.Schedule.{schedule_words}
use Rattle.aes_core.proofs.KeyStream.{cipher_of}
use Rattle.aes_core.proofs.AesKey.block.Goals as goal

pub returns : goal.returns
returns c =
    let inside = c.self.inside in
    c.to_block.ensures ∙ c.encrypt.ensures
    ∙ ap (λ input. cipher_under (schedule_words inside.words inside.rounds) input inside.rounds) c.from_block.ensures
    ∙ cipher_of inside.words inside.rounds _ c.args.block c.self.invariant c.self.view_is
