use Rattle.std.proofs.Common.{rules, ◌≡◌, length, drop, take_all, ap, sym, ◌∙◌, arith}
use Rattle.std.proofs.lemmas.List.{length-drop}
use Rattle.tls_crypt.specs.Wrapped.{keys_of}
use Rattle.tls_crypt.proofs.wrapper.Wrapper.new.Goals as goal

pub returns-in-Server : goal.returns-in-Server
returns-in-Server c =
    let key = c.args.key.now.0 in
    let size : length key ≡ 256 = search rules in
    let first = c.new.ensures ∙ ap keys_of c.split_at.ensures.front in
    let second = c.new-in-Server.ensures ∙ ap keys_of (c.split_at.ensures.back ∙ sym (take_all 128 (drop 128 key) (omega (arith, length-drop 128 key)))) in
    rw c.in-Server.is (λ i. record { writes = first i; reads = second i })

pub returns-in-Client : goal.returns-in-Client
returns-in-Client c =
    let key = c.args.key.now.0 in
    let size : length key ≡ 256 = search rules in
    let first = c.new-in-Client-2.ensures ∙ ap keys_of c.split_at.ensures.front in
    let second = c.new-in-Client.ensures ∙ ap keys_of (c.split_at.ensures.back ∙ sym (take_all 128 (drop 128 key) (omega (arith, length-drop 128 key)))) in
    rw c.in-Client.is (λ i. record { writes = second i; reads = first i })
