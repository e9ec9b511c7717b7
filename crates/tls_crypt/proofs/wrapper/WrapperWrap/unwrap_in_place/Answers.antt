use Rattle.std.proofs.Common.{rules, refl, ◌≡◌, ℕ, ◌^◌, ◌<◌, ◌≤◌, true, false, not, List, length, take, drop, ap, sym, ◌∙◌, arith}
use Rattle.std.proofs.lemmas.List.{take_rest}
use Rattle.std.proofs.lemmas.Slice.Eq.{bytes_eq-Decides}
use Rattle.tls_crypt.specs.Wrapped.{datagram, header, tag, wrapped}
use Rattle.tls_crypt.specs.Packets.{Directions}
use Rattle.tls_crypt.specs.Unwrapping.{packet_of}
use Rattle.tls_crypt.specs.internal.Laws.{framed, length-header, one_packet}
use Rattle.tls_crypt.proofs.Datagrams.{front_kept, is_wrapped, not_false, restored, right_tag}
use Rattle.byte_texts.specs.Texts.{IsBytes}
use Rattle.byte_texts.proofs.Parts.{IsBytes-drop}
use Rattle.tls_crypt.proofs.Searched.{none_found, short_found, unwraps_found}
use Rattle.tls_crypt.proofs.wrapper.WrapperWrap.unwrap_in_place.Goals as goal

pub returns-then-ne-clause-refused : goal.returns-then-ne-clause-refused
returns-then-ne-clause-refused c = λ _ first sid id time plain size same.
    let before = c.args.datagram.now in
    let after = c.encipher.new.datagram in
    let mac = c.array_at-tag.result in
    let keys = c.self.inside.reads in
    let long : 49 ≤ length before = omega arith in
    let is_datagram = same ∙ ap (λ (d : Directions). wrapped d.reads first sid id time plain) (sym c.self.view_is) in
    let right = right_tag keys (header first sid id time) plain mac before after (length-header first sid id time size) long is_datagram c.array_at-tag.ensures c.encipher.ensures in
    let expected : c.tag-expected.result ≡ mac = c.tag-expected.ensures ∙ ap (tag keys (take 17 after)) (take_rest after 49) ∙ right in
    let wrong : true ≡ false = c.if-ne.ensures ∙ ap not ((bytes_eq-Decides _ _).1 expected) in
    cc

pub returns-then-ne-clause-unchanged : goal.returns-then-ne-clause-unchanged
returns-then-ne-clause-unchanged c =
    let long : 49 ≤ length c.args.datagram.now = omega arith in
    restored c.self.inside.reads c.array_at-tag.result c.args.datagram.now c.encipher.new.datagram c.encipher-then-ne.new.datagram long c.encipher.ensures c.encipher-then-ne.ensures

pub returns-clause-opened : goal.returns-clause-opened
returns-clause-opened c =
    let before = c.args.datagram.now in
    let after = c.encipher.new.datagram in
    let mac = c.array_at-tag.result in
    let keys = c.self.inside.reads in
    let h = c.header_at.result in
    let long : 49 ≤ length before = omega arith in
    let right : tag keys (take 17 after) (drop 49 after) ≡ mac =
    sym (c.tag-expected.ensures ∙ ap (tag keys (take 17 after)) (take_rest after 49)) ∙ (bytes_eq-Decides _ _).0 (not_false _ c.if-ne.ensures) in
    is_wrapped keys mac before after long c.array_at-tag.ensures c.encipher.ensures right
    ∙ ap (λ (f : List ℕ). datagram keys f (drop 49 after)) (sym c.header_at.ensures)
    ∙ ap (λ (d : Directions). wrapped d.reads h.first h.sid.0 h.id h.time (drop 49 after)) c.self.view_is

pub returns-clause-front : goal.returns-clause-front
returns-clause-front c =
    let long : 49 ≤ length c.args.datagram.now = omega arith in
    front_kept c.self.inside.reads c.array_at-tag.result c.args.datagram.now c.encipher.new.datagram long c.encipher.ensures

pub returns-then-datagram-lt-OVERHEAD-clause-exact : goal.returns-then-datagram-lt-OVERHEAD-clause-exact
returns-then-datagram-lt-OVERHEAD-clause-exact c =
    let keys = c.args.self.now.reads in
    let small : IsBytes c.args.datagram.now = search rules in
    short_found (wrapped keys) c.args.datagram.now (framed keys) small (omega arith)

pub returns-then-ne-clause-exact : goal.returns-then-ne-clause-exact
returns-then-ne-clause-exact c =
    let keys = c.args.self.now.reads in
    let small : IsBytes c.args.datagram.now = search rules in
    none_found (wrapped keys) c.args.datagram.now (framed keys) small
    (λ p unwraps. returns-then-ne-clause-refused c refl p.first p.sid p.id p.time p.plain unwraps.in_range.sid unwraps.is_wrapped)

pub returns-clause-exact : goal.returns-clause-exact
returns-clause-exact c =
    let keys = c.args.self.now.reads in
    let h = c.header_at.result in
    let after = c.encipher.new.datagram in
    let small : IsBytes after = search rules in
    let sid : length h.sid.0 ≡ 8 = search rules in
    let id : h.id < 2 ^ 32 = search rules in
    let time : h.time < 2 ^ 32 = search rules in
    unwraps_found (wrapped keys) c.args.datagram.now (packet_of h (drop 49 after)) (framed keys) (one_packet keys)
    (record { in_range = record { sid = sid; id = id; time = time }; bytes = IsBytes-drop 49 after small; is_wrapped = returns-clause-opened c })
