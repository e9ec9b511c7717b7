use Rattle.std.proofs.Common.{◌≡◌, ℕ, ◌/◌, ◌%◌, ◌^◌, [], ◌∷◌, ◌++◌, length, ap, ◌∙◌, arith, length-append}
use Rattle.std.specs.Fmt.{decimal}
use Rattle.vpn_base.specs.Address.{ip4_text}
use Rattle.vpn_base.proofs.AddressText.{reads_ip4, joined, later, top_byte}
use Rattle.vpn_base.proofs.writing.write_ip4.Goals as goal

pub returns-clause-length : goal.returns-clause-length
unfolding ip4_text
returns-clause-length c =
    let n = c.args.a.0 in
    let top : n / 2 ^ 24 ≡ n / 2 ^ 24 % 256 = top_byte n (omega arith) in
    let a = decimal (n / 2 ^ 24 % 256) in
    let same : length (decimal (n / 2 ^ 24)) ≡ length a = ap (λ (m : ℕ). length (decimal m)) top in
    simp length-append (omega arith)

pub returns-clause-written : goal.returns-clause-written
unfolding ip4_text
returns-clause-written c =
    let n = c.args.a.0 in
    let top : n / 2 ^ 24 ≡ n / 2 ^ 24 % 256 = top_byte n (omega arith) in
    joined (decimal (n / 2 ^ 24 % 256)) (decimal (n / 2 ^ 16 % 256)) (decimal (n / 2 ^ 8 % 256)) (decimal (n % 256)) _ _ _ _
    (c.write_dotted-second.ensures.written ∙ ap (λ (m : ℕ). decimal m ++ 46 ∷ []) top)
    c.write_dotted-third.ensures.written c.write_dotted-fourth.ensures.written c.write_octet.ensures.written

pub returns-clause-rest : goal.returns-clause-rest
returns-clause-rest c =
    let end = c.write_octet.result in
    c.write_octet.ensures.rest
    ∙ later c.write_dotted-fourth.result end _ _ (omega arith) c.write_dotted-fourth.ensures.rest
    ∙ later c.write_dotted-third.result end _ _ (omega arith) c.write_dotted-third.ensures.rest
    ∙ later c.write_dotted-second.result end _ _ (omega arith) c.write_dotted-second.ensures.rest

pub returns-clause-again : goal.returns-clause-again
returns-clause-again c = reads_ip4 c.args.a (omega arith)
