use Rattle.std.proofs.Common.{rules, ◌≡◌, ℕ, List, ◌<◌, length, get_or, ap, ◌∙◌}
use Rattle.gcm_seal.specs.Gcm.{cipher_text}
use Rattle.gcm_seal.proofs.Counters.{numbered}
use Rattle.gcm_seal.proofs.Sealing.{sealed_in_parts, text_enciphered}
use Rattle.gcm_seal.proofs.gcm.Gcm.seal.Goals as goal

pub returns : goal.returns
unfolding numbered
returns c =
    let size : length c.args.nonce ≡ 12 = search rules in
    let small : (i : ℕ) → get_or c.args.nonce i 0 < 256 = search rules in
    let text =
    text_enciphered c.self.inside.aes c.args.nonce c.args.bytes.now _ c.ctr.new.bytes size small c.requires.bytes c.counter_block.ensures c.ctr.ensures
    ∙ ap (λ (key : List ℕ). cipher_text key c.args.nonce c.args.bytes.now) c.self.view_is in
    sealed_in_parts c.args.self.now c.args.nonce c.args.aad.now c.args.bytes.now c.ctr.new.bytes c.tag.result text c.tag.ensures
