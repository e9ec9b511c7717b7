use Rattle.std.proofs.Common.{ℕ, List, ◌≡◌, ◌+◌, ◌-◌, ◌++◌, length, drop, take, sym, ap, ◌∙◌, arith, rules}
use Rattle.std.proofs.lemmas.List.{take_at, drop_at}
use Rattle.sealed_packet.proofs.Sealing.{is_packet, parts_size, placed}
use Rattle.sealed_packet.proofs.packets.seal_packet.Goals as goal

pub returns-clause-written : goal.returns-clause-written
returns-clause-written g c =
    let n = length c.args.inner.now in
    let head = c.copy_from_slice.new.self in
    let tag = c.copy_from_slice-3.new.self in
    let text = c.seal-tag.new.bytes in
    let head_size : length head ≡ 8 = search rules in
    let tag_size : length tag ≡ 16 = search rules in
    let text_size : length text ≡ n = search rules in
    let sealed = c.seal-tag.ensures.text_and_tag ∙ ap (λ (t : List ℕ). record { text = text; tag = t }) (sym c.copy_from_slice-3.ensures.after) in
    ap (take (24 + n)) (placed c.args.out.now head text tag (24 + n - 24) n (omega arith) head_size text_size tag_size (omega arith))
    ∙ take_at (head ++ tag ++ text) (drop (24 + n) c.args.out.now) (24 + n) (parts_size head tag text n head_size tag_size text_size)
    ∙ is_packet (g.C.Aead.sealed c.args.cipher.now) c.args.implicit c.args.kid c.args.peer c.args.id c.args.inner.now c.nonce_of.result head
    c.write_data_head-head.result c.copy_from_slice-2.new.self tag text c.nonce_of.ensures (c.copy_from_slice.ensures.after ∙ c.write_data_head-head.ensures)
    c.write_data_head-head.ensures c.copy_from_slice-2.ensures.after sealed

pub returns-clause-rest : goal.returns-clause-rest
returns-clause-rest g c =
    let n = length c.args.inner.now in
    let head = c.copy_from_slice.new.self in
    let tag = c.copy_from_slice-3.new.self in
    let text = c.seal-tag.new.bytes in
    let head_size : length head ≡ 8 = search rules in
    let tag_size : length tag ≡ 16 = search rules in
    let text_size : length text ≡ n = search rules in
    ap (drop (24 + n)) (placed c.args.out.now head text tag (24 + n - 24) n (omega arith) head_size text_size tag_size (omega arith))
    ∙ drop_at (head ++ tag ++ text) (drop (24 + n) c.args.out.now) (24 + n) (parts_size head tag text n head_size tag_size text_size)
