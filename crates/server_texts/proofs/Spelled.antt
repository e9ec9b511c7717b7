-- Plans that are spelled alike.
use Rattle.std.proofs.Common.{◌≡◌, ℕ, ◌+◌, ◌-◌, ◌%◌, ◌^◌, ◌<◌, Bool, true, false, List, [], ◌∷◌, ◌++◌, map, codes, nat_lt, Option, Some, refl, ap, sym, ◌∙◌, arith, if◌then◌else◌}
use Rattle.std.specs.Prelude.{unwrap_or}
use Rattle.std.specs.Fmt.{decimal}
use borrow.Author.Tests.{ltb-true, ltb-false}
use Rattle.vpn_base.specs.Address.{ip4_text}
use Rattle.vpn_base.specs.CipherName.{cipher_name}
use Rattle.vpn_base.specs.declared.address.Ip4.{Ip4}
use Rattle.vpn_base.specs.Network.{Network}
use Rattle.vpn_text.specs.Mask.{mask_text}
use Rattle.ovpn_config.specs.declared.settings.Settings.{Settings}
use Rattle.push_options.specs.Options.{Plan, options_of, ping_options}
use Rattle.push_options.specs.Parts.{reply_parts}
use Rattle.server_table.specs.Establishing.{gateway}
use Rattle.server_texts.specs.Replies.{texts_of, with_nul}

-- the address of a number
abbrev address : ℕ → Ip4
address n = record { 0 = n }

-- the address behind the last one is spelled as the first one
first_again : ip4_text (address 0) ≡ ip4_text (address (2 ^ 32))
unfolding ip4_text
first_again = refl

next_by : (b : Bool) (n : ℕ) → nat_lt (n + 1) (2 ^ 32) ≡ b → n < 2 ^ 32 → ip4_text (address ((n + 1) % 4294967296)) ≡ ip4_text (address (n + 1))
next_by true n is small =
    let e : (n + 1) % 4294967296 ≡ n + 1 = omega (arith, ltb-true _ _ is) in ap (λ (m : ℕ). ip4_text (address m)) e
next_by false n is small =
    let last : n + 1 ≡ 2 ^ 32 = omega (arith, ltb-false _ _ is) in
    let e : (n + 1) % 4294967296 ≡ 0 = omega (arith, last) in
    ap (λ (m : ℕ). ip4_text (address m)) e ∙ first_again ∙ ap (λ (m : ℕ). ip4_text (address m)) (sym last)

-- the server's own address may be counted past the last one
pub gateway_spelled : (s : Settings) (n : Network) (a : Ip4) → s.net ≡ Some n → a ≡ n.net → a.0 < 2 ^ 32
    → ip4_text (record { 0 = (a.0 + 1) % 4294967296 }) ≡ ip4_text (gateway s)
gateway_spelled s n a is same small =
    next_by (nat_lt (a.0 + 1) (2 ^ 32)) a.0 refl small
    ∙ ap (λ (b : Ip4). ip4_text (address (b.0 + 1))) same
    ∙ ap (λ (o : Option Network). ip4_text (address ((unwrap_or o (record { net = record { 0 = 0 }; len = 32 })).net.0 + 1))) (sym is)

-- the mask of a length past 32 is that of 32
pub mask_spelled : (len : ℕ) → 32 < len → mask_text 32 ≡ mask_text len
unfolding mask_text
mask_spelled len more =
    let e : 32 - len ≡ 0 = omega (arith, more) in
    ap (λ (m : ℕ). ip4_text (address (2 ^ 32 - 2 ^ m))) (sym e)

-- the options of a plan with its own address and the mask as they are spelled
abbrev options_with : Plan → List ℕ → List ℕ → List (List ℕ)
options_with p own mask =
    (if p.reset then [] else p.pushes ++ ((codes "route-gateway " ++ own) ∷ codes "topology subnet" ∷ [] ++ ping_options p.keepalive))
    ++ (p.own ++ ((codes "ifconfig " ++ ip4_text p.address ++ codes " " ++ mask)
    ∷ (codes "peer-id " ++ decimal p.peer) ∷ (codes "cipher " ++ cipher_name p.cipher) ∷ []))

-- a plan with another address and mask that are spelled as its own gives the same texts
pub spelled_alike : (p : Plan) (a : Ip4) (len : ℕ) → ip4_text a ≡ ip4_text p.gateway → mask_text len ≡ mask_text p.len
    → texts_of (record p { gateway = a; len = len }) ≡ texts_of p
unfolding texts_of options_of
spelled_alike p a len own mask = λ i. map with_nul (reply_parts (options_with p (own i) (mask i)))
