use Rattle.std.proofs.Common.{◌≡◌, ℕ, ◌+◌, ◌-◌, ◌/◌, ap, sym, ◌∙◌, List, length, take, drop, take_all, map, arith}
use Rattle.std.proofs.lemmas.List.{length-drop}
use Rattle.std.proofs.Math.ListN.{replicate}
use Rattle.std.specs.List.{concat}
use Rattle.hmac_kit.specs.Hmac.{hmac_md5, hmac_sha1}
use Rattle.hmac_kit.specs.Prf.{both_streams, p_hash, first_half, second_half, xor_bytes}
use Rattle.hmac_kit.proofs.PHash.{two_streams, half_is}
use Rattle.hmac_kit.proofs.pseudorandom.prf_of_pieces.Goals as goal

pub returns : goal.returns
unfolding both_streams
returns c =
    let secret = c.args.secret.now in
    let seed = concat (map (λ piece. piece.now) c.args.pieces.now) in
    let n = length c.args.out.now in
    let half : c.div_ceil-half.result ≡ (length secret + 1) / 2 = half_is (length secret) c.div_ceil-half.result c.div_ceil-half.ensures in
    let blank : c.fill.new.self ≡ replicate n 0 = c.fill.ensures.after (λ y e. e) in
    let cut : take (length secret - (length secret - c.div_ceil-half.result)) (drop (length secret - c.div_ceil-half.result) secret) ≡ second_half secret =
    take_all _ _ (omega (arith, length-drop (length secret - c.div_ceil-half.result) secret)) ∙ ap (λ (h : ℕ). drop (length secret - h) secret) half in
    let front : take c.div_ceil-half.result secret ≡ first_half secret = ap (λ (h : ℕ). take h secret) half in
    let zeroed : length c.fill.new.self ≡ n = c.fill.ensures.len in
    let a : List ℕ = p_hash (hmac_md5 (first_half secret)) seed n in
    let b : List ℕ = p_hash (hmac_sha1 (second_half secret)) seed n in
    let one : c.xor_p_hash.new.out ≡ xor_bytes c.fill.new.self a = c.xor_p_hash.ensures.xored ∙ ap (λ (s : List ℕ). xor_bytes c.fill.new.self (p_hash (hmac_md5 s) seed (length c.fill.new.self))) front ∙ ap (λ (k : ℕ). xor_bytes c.fill.new.self (p_hash (hmac_md5 (first_half secret)) seed k)) zeroed in
    let long : length c.fill.new.self ≡ length a = c.xor_p_hash.ensures.long ∙ ap (λ (s : List ℕ). length (p_hash (hmac_md5 s) seed (length c.fill.new.self))) front ∙ ap (λ (k : ℕ). length (p_hash (hmac_md5 (first_half secret)) seed k)) zeroed in
    let kept : length c.xor_p_hash.new.out ≡ n = omega arith in
    let two : c.xor_p_hash-2.new.out ≡ xor_bytes c.xor_p_hash.new.out b = c.xor_p_hash-2.ensures.xored ∙ ap (λ (s : List ℕ). xor_bytes c.xor_p_hash.new.out (p_hash (hmac_sha1 s) seed (length c.xor_p_hash.new.out))) cut ∙ ap (λ (k : ℕ). xor_bytes c.xor_p_hash.new.out (p_hash (hmac_sha1 (second_half secret)) seed k)) kept in
    two_streams a b c.fill.new.self c.xor_p_hash.new.out c.xor_p_hash-2.new.out (blank ∙ ap (λ (k : ℕ). replicate k 0) (sym zeroed)) long one two
