use Rattle.std.proofs.Common.{rules, ◌≡◌, ℕ, List, ◌<◌, length, get_or, ap, sym, ◌∙◌}
use Rattle.std.specs.Int.{w128, from_be_bytes}
use Rattle.gcm_seal.specs.Gcm.{cipher_text}
use Rattle.gcm_seal.proofs.BigEndian.{same_from_number}
use Rattle.gcm_seal.proofs.Counters.{numbered}
use Rattle.gcm_seal.proofs.Sealing.{opened_in_parts, tag_of_sealed, text_enciphered}
use Rattle.gcm_seal.proofs.gcm.Gcm.unseal.Goals as goal

pub returns-then-from_be_bytes-clause-refused : goal.returns-then-from_be_bytes-clause-refused
returns-then-from_be_bytes-clause-refused c = λ plain long sealed.
    let tag = tag_of_sealed c.args.self.now c.args.nonce c.args.aad.now plain c.args.bytes.now c.args.tag sealed ∙ sym c.tag-expected.ensures in
    c.if-from_be_bytes.true (c.from_be_bytes.ensures ∙ ap (from_be_bytes w128) tag ∙ sym c.from_be_bytes-2.ensures)

pub returns-clause-opened : goal.returns-clause-opened
unfolding numbered
returns-clause-opened c =
    let size : length c.args.nonce ≡ 12 = search rules in
    let small : (i : ℕ) → get_or c.args.nonce i 0 < 256 = search rules in
    let tag_size : length c.args.tag ≡ 16 = search rules in
    let tag_small : (i : ℕ) → get_or c.args.tag i 0 < 256 = search rules in
    let expected_size : length c.tag-expected.result ≡ 16 = search rules in
    let expected_small : (i : ℕ) → get_or c.tag-expected.result i 0 < 256 = search rules in
    let same = same_from_number c.args.tag c.tag-expected.result tag_size expected_size tag_small expected_small
    (sym c.from_be_bytes.ensures ∙ c.if-from_be_bytes.false ∙ c.from_be_bytes-2.ensures) in
    let text =
    text_enciphered c.self.inside.aes c.args.nonce c.args.bytes.now _ c.ctr.new.bytes size small c.requires.bytes c.counter_block.ensures c.ctr.ensures
    ∙ ap (λ (key : List ℕ). cipher_text key c.args.nonce c.args.bytes.now) c.self.view_is in
    opened_in_parts c.args.self.now c.args.nonce c.args.aad.now c.ctr.new.bytes c.args.bytes.now c.args.tag text (same ∙ c.tag-expected.ensures)
