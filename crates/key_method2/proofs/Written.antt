-- What is written is a message.
use Rattle.std.proofs.Common.{◌≡◌, ℕ, ◌+◌, ◌*◌, ◌≤◌, List, [], ◌∷◌, ◌++◌, length, take, map, replicate, Option, Some, None, refl, sym, ap, subst, ◌∙◌, append_assoc, inl, inr, arith}
use Rattle.std.proofs.lemmas.List.{append-nil, length-append, take_all}
use Rattle.vpn_base.specs.declared.names.Role.{Role}
use Rattle.vpn_base.specs.declared.names.Role.TheVariants.{Server, Client}
use Rattle.vpn_base.specs.declared.names.Cipher.{Cipher}
use Rattle.vpn_base.specs.declared.names.Cipher.TheVariants.{Aes128Gcm, Aes256Gcm}
use Rattle.vpn_base.specs.CipherName.{cipher_name}
use Rattle.key_method2.specs.declared.message.Source.{Source}
use Rattle.key_method2.specs.declared.message.Km2.{Km2}
use Rattle.key_method2.specs.Message.{opening, IsPreMaster, IsSource, source_bytes, IsField, HasAllTexts}
use Rattle.key_method2.specs.Messages.{tunnel_options, server_km2, server_message, behind_colons, joined, client_info, client_km2, client_message}
use Rattle.key_method2.specs.Spelling.{role_by, role_of, field_of, message_bytes}

field_of-is : (text : List ℕ) → length text ≤ 65534 → IsField (field_of text) text
field_of-is [] short = inl (refl, refl)
field_of-is (byte ∷ bytes) short = inr (omega arith, refl)

-- four fields, put together from the left or from the right
regroup : (front a b c d : List ℕ) → (((front ++ a) ++ b) ++ c) ++ d ≡ front ++ (a ++ (b ++ (c ++ (d ++ []))))
regroup front a b c d = simp (append_assoc, append-nil)

pub message_bytes-is : (m : Km2) → IsSource (role_of m.source) m.source → length m.options ≤ 65534 → length m.user ≤ 65534 → length m.pass ≤ 65534 → length m.info ≤ 65534
    → HasAllTexts (role_of m.source) (message_bytes m) m
unfolding message_bytes
message_bytes-is m source options user pass info =
    let a : List ℕ = field_of m.options in
    let b : List ℕ = field_of m.user in
    let c : List ℕ = field_of m.pass in
    let d : List ℕ = field_of m.info in
    record {
      source = source;
      fields = a ++ (b ++ (c ++ (d ++ [])));
      are_fields = (
        a,
        b ++ (c ++ (d ++ [])),
        field_of-is m.options options,
        (b, c ++ (d ++ []), field_of-is m.user user, (c, d ++ [], field_of-is m.pass pass, (d, [], field_of-is m.info info, refl, refl), refl), refl),
        refl,
      );
      left_out = refl;
      whole = regroup (opening ++ source_bytes m.source) a b c d;
    }

-- ---- the server's message

regrouped : (one two options : List ℕ) → ((opening ++ one ++ two) ++ options) ++ replicate 6 0 ≡ opening ++ ([] ++ one ++ two) ++ options ++ (0 ∷ 0 ∷ []) ++ (0 ∷ 0 ∷ []) ++ (0 ∷ 0 ∷ [])
regrouped one two options = simp append_assoc

-- a part behind those before it
behind : (n : ℕ) (a b front part : List ℕ) → take (n + length part) b ≡ take n a ++ part → take n a ≡ front → take (n + length part) b ≡ front ++ part
behind n a b front part put is = put ∙ ap (λ (t : List ℕ). t ++ part) is

-- the bytes of the message, put together part by part
pub server_parts : (source : Source) (a b d e whole : List ℕ) → length source.random1 ≡ 32 → length source.random2 ≡ 32 → length whole ≡ 93
    → take 5 a ≡ opening → take (5 + length source.random1) b ≡ take 5 a ++ source.random1 → take (37 + length source.random2) d ≡ take 37 b ++ source.random2
    → take 87 e ≡ take 69 d ++ field_of tunnel_options → take 93 whole ≡ take 87 e ++ replicate 6 0 → whole ≡ server_message source
unfolding server_message message_bytes
server_parts source a b d e whole one two long first second third fourth fifth =
    let two_parts : take 37 b ≡ opening ++ source.random1 = (let k = behind 5 a b opening source.random1 second first in rw one at k) in
    let three_parts : take 69 d ≡ opening ++ source.random1 ++ source.random2 = (let k = behind 37 b d (opening ++ source.random1) source.random2 third two_parts in rw two at k) in
    let options : take 87 e ≡ (opening ++ source.random1 ++ source.random2) ++ field_of tunnel_options = fourth ∙ ap (λ (t : List ℕ). t ++ field_of tunnel_options) three_parts in
    sym (take_all 93 whole (omega (arith, long))) ∙ fifth ∙ ap (λ (t : List ℕ). t ++ replicate 6 0) options ∙ regrouped source.random1 source.random2 (field_of tunnel_options)

pub server_is : (source : Source) (bytes : List ℕ) → length source.random1 ≡ 32 → length source.random2 ≡ 32 → bytes ≡ server_message source → HasAllTexts Server bytes (server_km2 source)
unfolding server_message
server_is source bytes one two is =
    subst (λ (b : List ℕ). HasAllTexts Server b (server_km2 source)) (sym is)
    (message_bytes-is (server_km2 source) (record { pre = tt; random1 = one; random2 = two }) (omega arith) (omega arith) (omega arith) (omega arith))

-- ---- the client's message

length-name : (cipher : Cipher) → length (cipher_name cipher) ≡ 11
length-name Aes128Gcm = refl
length-name Aes256Gcm = refl

behind_short : (ciphers : List Cipher) → length (behind_colons (map cipher_name ciphers)) ≡ 12 * length ciphers
behind_short [] = refl
behind_short (cipher ∷ ciphers) =
    omega (arith, behind_short ciphers, length-name cipher, length-append (cipher_name cipher) (behind_colons (map cipher_name ciphers)))

joined_short : (ciphers : List Cipher) → length (joined (map cipher_name ciphers)) ≤ 12 * length ciphers
joined_short [] = omega arith
joined_short (cipher ∷ ciphers) =
    omega (arith, behind_short ciphers, length-name cipher, length-append (cipher_name cipher) (behind_colons (map cipher_name ciphers)))

info_short : (ciphers : List Cipher) → length ciphers ≤ 5000 → length (client_info ciphers) ≤ 65534
info_short ciphers few =
    let names : List ℕ = joined (map cipher_name ciphers) in omega (arith, joined_short ciphers, length-append names (10 ∷ []))

a_clients : (source : Source) → IsSource Client source → role_of source ≡ Client
a_clients source is = by source.pre is.pre where
  by : (pre : Option (List ℕ)) → IsPreMaster Client pre → role_by pre ≡ Client
  by (Some pre) long = refl
  by None none = absurd none

pub client_is : (source : Source) (ciphers : List Cipher) → IsSource Client source → length ciphers ≤ 5000 → HasAllTexts Client (client_message source ciphers) (client_km2 source ciphers)
unfolding client_message
client_is source ciphers is few =
    let role = a_clients source is in
    subst (λ (from : Role). HasAllTexts from (message_bytes (client_km2 source ciphers)) (client_km2 source ciphers)) role
    (message_bytes-is (client_km2 source ciphers) (subst (λ (from : Role). IsSource from source) (sym role) is) (omega arith) (omega arith) (omega arith) (info_short ciphers few))
