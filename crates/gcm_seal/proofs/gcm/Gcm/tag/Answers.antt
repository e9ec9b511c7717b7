use Rattle.std.proofs.Common.{rules, ◌≡◌, ℕ, ◌<◌, length, get_or, ap, ◌∙◌}
use Rattle.std.specs.Int.{w128, to_be_bytes}
use Rattle.ghash_core.specs.Ghash.{element}
use Rattle.gcm_seal.specs.Gcm.{tag_of}
use Rattle.gcm_seal.proofs.Counters.{numbered}
use Rattle.gcm_seal.proofs.Sealing.{hash_enciphered, hash_in_parts}
use Rattle.gcm_seal.proofs.gcm.Gcm.tag.Goals as goal

pub returns : goal.returns
unfolding numbered
returns c =
    let aad = c.args.aad.now in
    let text = c.args.text.now in
    let key = c.self.inside.aes in
    let size : length c.args.nonce ≡ 12 = search rules in
    let small : (i : ℕ) → get_or c.args.nonce i 0 < 256 = search rules in
    let lengths = c.from_be_bytes-lengths.ensures ∙ ap element c.length_block.ensures in
    let hash = c.mul.ensures ∙ hash_in_parts key aad text c.self.inside.hash _ _ _ c.self.invariant c.absorb-sum.ensures.padded c.absorb-sum-2.ensures.padded lengths in
    let bytes = c.to_be_bytes-tag.ensures ∙ ap (to_be_bytes w128) hash in
    hash_enciphered key c.args.nonce aad text _ _ _ size small bytes c.counter_block.ensures c.ctr.ensures
    ∙ ap (λ k. tag_of k c.args.nonce aad text) c.self.view_is
