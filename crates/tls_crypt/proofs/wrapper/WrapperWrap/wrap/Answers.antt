use Rattle.std.proofs.Common.{rules, ◌≡◌, ℕ, ◌+◌, List, ◌++◌, length, take, drop, ap, sym, ◌∙◌, arith}
use Rattle.std.proofs.lemmas.List.{take_at, drop_at}
use Rattle.tls_crypt.specs.Wrapped.{cipher_text, datagram, wrapped}
use Rattle.tls_crypt.specs.Packets.{Directions}
use Rattle.tls_crypt.proofs.Datagrams.{drop_kept, length-datagram, wrapped_in_place}
use Rattle.tls_crypt.proofs.wrapper.WrapperWrap.wrap.Goals as goal

pub returns-clause-written : goal.returns-clause-written
returns-clause-written c =
    let front = c.header_of-header.result in
    let mac = c.tag-tag.result in
    let plain = c.args.plain.now in
    let keys = c.self.inside.writes in
    let before = take (49 + length plain) c.write_at-3.new.out in
    let after = c.encipher.new.datagram in
    let front_size : length front ≡ 17 = search rules in
    let mac_size : length mac ≡ 32 = search rules in
    let one : take 17 c.write_at.new.out ≡ front = sym (ap (λ (n : ℕ). take (0 + n) c.write_at.new.out) front_size) ∙ c.write_at.ensures.written in
    let two : take 49 c.write_at-2.new.out ≡ front ++ mac =
    sym (ap (λ (n : ℕ). take (17 + n) c.write_at-2.new.out) mac_size) ∙ c.write_at-2.ensures.written ∙ ap (λ (l : List ℕ). l ++ mac) one in
    let three : before ≡ (front ++ mac) ++ plain = c.write_at-3.ensures.written ∙ ap (λ (l : List ℕ). l ++ plain) two in
    let enciphered : after ≡ take 49 before ++ cipher_text keys mac (drop 49 before) = c.encipher.ensures in
    let whole = wrapped_in_place keys front mac plain before after front_size c.tag-tag.ensures three enciphered in
    take_at after _ (49 + length plain) (ap length whole ∙ length-datagram keys front plain front_size)
    ∙ whole
    ∙ ap (λ (f : List ℕ). datagram keys f plain) c.header_of-header.ensures
    ∙ ap (λ (d : Directions). wrapped d.writes c.args.first c.args.sid.0 c.args.id c.args.time plain) c.self.view_is

pub returns-clause-rest : goal.returns-clause-rest
returns-clause-rest c =
    let size : length c.encipher.new.datagram ≡ 49 + length c.args.plain.now = search rules in
    let end = 49 + length c.args.plain.now in
    let front_size : length c.header_of-header.result ≡ 17 = search rules in
    let mac_size : length c.tag-tag.result ≡ 32 = search rules in
    let one : drop 17 c.write_at.new.out ≡ drop 17 c.args.out.now =
    sym (ap (λ (n : ℕ). drop (0 + n) c.write_at.new.out) front_size) ∙ c.write_at.ensures.rest ∙ ap (λ (n : ℕ). drop (0 + n) c.args.out.now) front_size in
    let two : drop 49 c.write_at-2.new.out ≡ drop 49 c.write_at.new.out =
    sym (ap (λ (n : ℕ). drop (17 + n) c.write_at-2.new.out) mac_size) ∙ c.write_at-2.ensures.rest ∙ ap (λ (n : ℕ). drop (17 + n) c.write_at.new.out) mac_size in
    drop_at c.encipher.new.datagram _ end size
    ∙ c.write_at-3.ensures.rest
    ∙ drop_kept 49 end c.write_at-2.new.out c.write_at.new.out (omega arith) two
    ∙ drop_kept 17 end c.write_at.new.out c.args.out.now (omega arith) one
