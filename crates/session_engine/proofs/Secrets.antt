-- An empty pre-master secret makes the same keys as one of zeros: HMAC puts zeros behind a key that is shorter than a block.
use Rattle.std.proofs.Common.{◌≡◌, ◌++◌, ℕ, List, [], Option, Some, None, refl, ap, sym, ◌∙◌}
use Rattle.std.specs.Prelude.{replicate, unwrap_or}
use Rattle.hmac_kit.specs.Hmac.{hmac, hmac_md5, hmac_sha1, masked_key}
use Rattle.hmac_kit.specs.KeyDerivation.{key_block, master_secret}
use Rattle.hmac_kit.specs.Prf.{both_streams, p_hash, prf_bytes, xor_bytes}
use Rattle.key_method2.specs.declared.message.Source.{Source}
use Rattle.peer_table.specs.Exchange.{block_of}

same_mask : (hash : List ℕ → List ℕ) (pad : ℕ) → masked_key hash pad [] ≡ masked_key hash pad (replicate 24 0)
unfolding masked_key
same_mask hash pad = refl

same_mac : (hash : List ℕ → List ℕ) → hmac hash [] ≡ hmac hash (replicate 24 0)
unfolding hmac
same_mac hash =
    let outer : List ℕ → List ℕ → List ℕ = λ mask text. hash (mask ++ hash (masked_key hash 0x36 [] ++ text)) in
    let inner : List ℕ → List ℕ → List ℕ = λ mask text. hash (masked_key hash 0x5c (replicate 24 0) ++ hash (mask ++ text)) in
    ap outer (same_mask hash 0x5c) ∙ ap inner (same_mask hash 0x36)

same_md5 : hmac_md5 [] ≡ hmac_md5 (replicate 24 0)
same_md5 = same_mac _

same_sha1 : hmac_sha1 [] ≡ hmac_sha1 (replicate 24 0)
same_sha1 = same_mac _

same_streams : (seed : List ℕ) (n : ℕ) → both_streams [] seed n ≡ both_streams (replicate 48 0) seed n
unfolding both_streams
same_streams seed n =
    ap (λ (mac : List ℕ → List ℕ). xor_bytes (p_hash mac seed n) (p_hash (hmac_sha1 []) seed n)) same_md5
    ∙ ap (λ (mac : List ℕ → List ℕ). xor_bytes (p_hash (hmac_md5 (replicate 24 0)) seed n) (p_hash mac seed n)) same_sha1

same_secret : (client1 server1 : List ℕ) → master_secret [] client1 server1 ≡ master_secret (replicate 48 0) client1 server1
unfolding master_secret prf_bytes
same_secret client1 server1 = same_streams _ 48

-- the block of all keys
pub same_block : (client own : Source) (client_sid server_sid : List ℕ) → client.pre ≡ None →
    block_of (record { pre = Some (replicate 48 0); random1 = client.random1; random2 = client.random2 }) own client_sid server_sid
    ≡ block_of client own client_sid server_sid
same_block client own client_sid server_sid none =
    ap (λ (secret : List ℕ). key_block secret client.random2 own.random2 client_sid server_sid) (sym (same_secret client.random1 own.random1))
    ∙ ap (λ (pre : Option (List ℕ)). key_block (master_secret (unwrap_or pre []) client.random1 own.random1) client.random2 own.random2 client_sid server_sid) (sym none)
