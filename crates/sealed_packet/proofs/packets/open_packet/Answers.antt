use Rattle.std.proofs.Common.{arith, rules, ℕ, List, ◌-◌, length, drop, refl, sym, ap, subst, ◌∙◌}
use Rattle.std.proofs.lemmas.List.{take_rest}
use Rattle.gcm_seal.specs.Sealed.{Sealed}
use Rattle.sealed_packet.specs.internal.Head.{data_form_of}
use Rattle.sealed_packet.specs.SealedPacket.{Opens}
use Rattle.sealed_packet.proofs.Laws.{form_opened, is_form_opened, only_authentic, readable_opened}
use Rattle.sealed_packet.proofs.Opening.{authentic, opened_part, same_sealed, unchanged_part}
use Rattle.sealed_packet.proofs.Parts.{readable}
use Rattle.std.proofs.lemmas.Slice.{take-put_mid_below}
use borrow.Rule.Slice.PartMut.{put_mid}
use Rattle.byte_texts.proofs.Parts.{IsBytes-drop}
use Rattle.byte_texts.specs.Texts.{IsBytes}
use Rattle.sealed_packet.proofs.Searched.{not_opening, opens_opening}
use Rattle.sealed_packet.proofs.packets.open_packet.Goals as goal

pub returns-in_default-clause-refused : goal.returns-in_default-clause-refused
returns-in_default-clause-refused g c = λ id inner opens.
    let sealed = g.C.Aead.sealed c.args.cipher.now in
    let datagram = c.args.datagram.now in
    let r = readable_opened sealed c.args.implicit c.args.kid id datagram inner (g.met.C.Aead.lengths c.args.cipher.now) opens in
    c.in_default.ensures.exact (form_opened sealed c.args.implicit c.args.kid datagram id inner)
    (record { kid = c.requires.kid; peer = r.peer; id = r.id; tag = r.tag }) refl
    (is_form_opened sealed c.args.implicit c.args.kid id datagram inner opens)

pub returns-in-Ok-clause-opened : goal.returns-in-Ok-clause-opened
returns-in-Ok-clause-opened g c =
    let sealed = g.C.Aead.sealed c.args.cipher.now in
    let datagram = c.args.datagram.now in
    let f = data_form_of c.args.kid c.in-Some.head (drop 24 datagram) in
    let inner = c.unseal.new.bytes in
    let opened = c.in-Ok.ensures.opened ∙ ap (λ (t : List ℕ). record { text = t; tag = c.in-Some.head.tag }) (take_rest datagram 24) in
    let opens = authentic sealed c.args.implicit f datagram inner c.nonce_of-nonce.result c.write_data_head-additional.result
    c.in-Some.ensures.exact.0 c.in-Some.ensures.exact.1 c.nonce_of-nonce.ensures c.write_data_head-additional.ensures opened in
    subst (λ (t : List ℕ). Opens sealed c.args.implicit c.args.kid datagram c.in-Some.head.id t)
    (sym (opened_part datagram inner (length datagram - 24) c.in-Some.ensures.long refl)) opens

pub returns-in-Err-clause-refused : goal.returns-in-Err-clause-refused
returns-in-Err-clause-refused g c = λ id inner opens.
    let sealed = g.C.Aead.sealed c.args.cipher.now in
    let datagram = c.args.datagram.now in
    let lengths = g.met.C.Aead.lengths c.args.cipher.now in
    let f = data_form_of c.args.kid c.in-Some.head (drop 24 datagram) in
    let n = c.nonce_of-nonce.result in
    let aad = c.write_data_head-additional.result in
    let only = only_authentic sealed c.args.implicit f datagram inner id lengths (readable f c.in-Some.ensures.exact.0) c.in-Some.ensures.exact.1 opens in
    let authentic =
    same_sealed sealed c.args.implicit c.args.kid c.in-Some.head.peer c.in-Some.head.id inner n aad c.nonce_of-nonce.ensures c.write_data_head-additional.ensures ∙ only.1 in
    c.in-Err.ensures.refused inner
    (sym (lengths n aad inner).0 ∙ ap (λ (s : Sealed). length s.text) authentic ∙ sym (ap length (take_rest datagram 24)))
    (authentic ∙ ap (λ (t : List ℕ). record { text = t; tag = c.in-Some.head.tag }) (sym (take_rest datagram 24)))

pub returns-in-Err-clause-unchanged : goal.returns-in-Err-clause-unchanged
returns-in-Err-clause-unchanged g c =
    unchanged_part c.args.datagram.now c.unseal.new.bytes (length c.args.datagram.now - 24) refl c.in-Some.ensures.long
    (c.in-Err.ensures.unchanged ∙ take_rest c.args.datagram.now 24)

pub returns-in_default-clause-exact : goal.returns-in_default-clause-exact
returns-in_default-clause-exact g c =
    let small : IsBytes c.args.datagram.now = search rules in
    not_opening (g.C.Aead.sealed c.args.cipher.now) c.args.implicit c.args.kid c.args.datagram.now small
    (λ id inner bytes. returns-in_default-clause-refused g c id inner)

pub returns-in-Ok-clause-exact : goal.returns-in-Ok-clause-exact
returns-in-Ok-clause-exact g c =
    let datagram = c.args.datagram.now in
    let after = put_mid 24 (length datagram - 24) datagram c.unseal.new.bytes in
    let small : IsBytes after = search rules in
    opens_opening (g.C.Aead.sealed c.args.cipher.now) c.args.implicit c.args.kid c.in-Some.head.id datagram (drop 24 after)
    (g.met.C.Aead.lengths c.args.cipher.now) (g.met.C.Aead.one_plain c.args.cipher.now) (IsBytes-drop 24 after small) (returns-in-Ok-clause-opened g c)

pub returns-in-Ok-clause-front : goal.returns-in-Ok-clause-front
returns-in-Ok-clause-front g c =
    take-put_mid_below 24 (length c.args.datagram.now - 24) c.args.datagram.now c.unseal.new.bytes 24 (omega arith) c.in-Some.ensures.long

pub returns-in-Err-clause-exact : goal.returns-in-Err-clause-exact
returns-in-Err-clause-exact g c =
    let small : IsBytes c.args.datagram.now = search rules in
    not_opening (g.C.Aead.sealed c.args.cipher.now) c.args.implicit c.args.kid c.args.datagram.now small
    (λ id inner bytes. returns-in-Err-clause-refused g c id inner)
