use Rattle.std.proofs.Common.{ℕ, List, ◌++◌, length, take, drop, ap, ◌∙◌, arith}
use Rattle.std.proofs.lemmas.List.{take_rest}
use Rattle.aes_core.specs.Field.{xor_bytes}
use Rattle.aes_core.specs.CounterMode.{key_stream}
use Rattle.tls_crypt.specs.Wrapped.{Keys, cipher_text}
use Rattle.tls_crypt.proofs.Datagrams.{put_mid-end}
use Rattle.tls_crypt.proofs.half.Half.encipher.Goals as goal

pub returns : goal.returns
unfolding cipher_text
returns c =
    let before = c.args.datagram.now in
    let cipher = c.self.inside.cipher in
    let text = c.ctr.ensures
    ∙ ap (λ (l : List ℕ). xor_bytes l (key_stream cipher c.array_at.result (length l))) (take_rest before 49)
    ∙ ap (λ (iv : List ℕ). xor_bytes (drop 49 before) (key_stream cipher iv (length (drop 49 before)))) c.array_at.ensures
    ∙ ap (λ (k : Keys). cipher_text k c.args.tag.now (drop 49 before)) c.self.view_is in
    put_mid-end 49 _ before c.ctr.new.bytes c.requires (omega arith) ∙ ap (λ (l : List ℕ). take 49 before ++ l) text
