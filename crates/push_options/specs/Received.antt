-- The options of a push reply as a client reads them (OpenVPN 2.6, openvpn(8), --push; the numbers are this
-- profile's).
use Rattle.std.specs.Prelude.{ℕ, ◌==◌, ◌||◌, Bool, true, false, List, [], ◌∷◌, ◌++◌, length, codes, bytes_eq, Option, Some, None, option_map, option_and_then, if◌then◌else◌}
use Rattle.std.specs.Option.{option_map_or}
use Rattle.vpn_base.specs.declared.address.Ip4.{Ip4}
use Rattle.vpn_base.specs.declared.names.Cipher.{Cipher}
use Rattle.vpn_base.specs.declared.names.Cipher.TheVariants.{Aes128Gcm, Aes256Gcm}
use Rattle.vpn_base.specs.declared.names.Policy.{Policy}
use Rattle.vpn_base.specs.declared.names.Policy.TheVariants.{Choose, Fixed}
use Rattle.vpn_base.specs.Address.{ip4_of}
use Rattle.vpn_base.specs.Network.{Network}
use Rattle.vpn_base.specs.Number.{number_of}
use Rattle.vpn_base.specs.WordCount.{one_of}
use Rattle.vpn_text.specs.CipherWord.{cipher_named}
use Rattle.vpn_text.specs.Mask.{mask_of, masked_network}
use Rattle.vpn_text.specs.Words.{is_blank}
use Rattle.push_options.specs.declared.received.Name.{Name}
use Rattle.push_options.specs.declared.received.Name.TheVariants as names
use Rattle.push_options.specs.declared.received.Meaning.{Meaning}
use Rattle.push_options.specs.declared.received.Meaning.TheVariants as options

-- a word, if it has a byte
abbrev pub if_any : List ℕ → List (List ℕ)
if_any word = if length word == 0 then [] else word ∷ []

-- the words behind the beginning of one: what stands between spaces and tabs
abbrev pub words_from : List ℕ → List ℕ → List (List ℕ)
words_from word [] = if_any word
words_from word (c ∷ cs) = if is_blank c then if_any word ++ words_from [] cs else words_from (word ++ c ∷ []) cs

-- the words of an option, with no quotes, escapes or comments
abbrev pub words_in : List ℕ → List (List ℕ)
words_in option = words_from [] option

-- what the first word of an option names
unfoldable pub name_of : List ℕ → Name
name_of word =
    if bytes_eq word (codes "ifconfig") then names.Address
    else if bytes_eq word (codes "peer-id") then names.Peer
    else if bytes_eq word (codes "cipher") then names.Cipher
    else if bytes_eq word (codes "topology") then names.Topology
    else if bytes_eq word (codes "route-gateway") then names.Gateway
    else if bytes_eq word (codes "route") then names.Route
    else if bytes_eq word (codes "ping") then names.Ping
    else if bytes_eq word (codes "ping-restart") then names.PingRestart
    else if bytes_eq word (codes "push-continuation") then names.Continuation
    else if bytes_eq word (codes "compress") then names.Refused
    else if bytes_eq word (codes "comp-lzo") then names.Refused
    else names.Other

-- exactly one number of at most this
abbrev pub number_in : ℕ → List (List ℕ) → Option ℕ
number_in most words = option_and_then (number_of most) (one_of words)

-- two values, if both are there
abbrev pub both : {A B : Type 0} → Option A → Option B → Option (A × B)
both (Some a) (Some b) = Some (a, b)
both _ _ = None

-- IP MASK: an address and the length of its mask
abbrev pub address_in : List (List ℕ) → Option (Ip4 × ℕ)
address_in (ip ∷ mask ∷ []) = both (ip4_of ip) (mask_of mask)
address_in _ = None

-- whether these are the same cipher
abbrev pub is_same : Cipher → Cipher → Bool
is_same Aes128Gcm Aes128Gcm = true
is_same Aes128Gcm Aes256Gcm = false
is_same Aes256Gcm Aes128Gcm = false
is_same Aes256Gcm Aes256Gcm = true

-- whether the client's policy has the cipher
abbrev pub is_own : Policy → Cipher → Bool
is_own (Choose first second) cipher = is_same first cipher || option_map_or (λ other. is_same other cipher) second false
is_own (Fixed only) cipher = is_same only cipher

-- a cipher of the client's own
abbrev pub if_own : Policy → Option Cipher → Option Cipher
if_own ours None = None
if_own ours (Some cipher) = if is_own ours cipher then Some cipher else None

-- NAME
abbrev pub cipher_in : Policy → List (List ℕ) → Option Cipher
cipher_in ours words = if_own ours (option_and_then cipher_named (one_of words))

-- `subnet`
abbrev pub is_subnet : List (List ℕ) → Bool
is_subnet words = option_map_or (λ word. bytes_eq word (codes "subnet")) (one_of words) false

-- IP
abbrev pub gateway_in : List (List ℕ) → Option Ip4
gateway_in words = option_and_then ip4_of (one_of words)

-- the mask of one address
unfoldable pub host_mask : List ℕ
host_mask = codes "255.255.255.255"

-- NET [MASK [WORD [WORD]]]; the gateway and the metric are not looked at
abbrev pub route_in : List (List ℕ) → Option Network
route_in (net ∷ []) = masked_network net host_mask
route_in (net ∷ mask ∷ []) = masked_network net mask
route_in (net ∷ mask ∷ gateway ∷ []) = masked_network net mask
route_in (net ∷ mask ∷ gateway ∷ metric ∷ []) = masked_network net mask
route_in _ = None

-- `1` for the last part and `2` for each other one: whether more follow
abbrev pub mark_in : List (List ℕ) → Option Bool
mark_in (word ∷ []) = if bytes_eq word (codes "1") then Some false else if bytes_eq word (codes "2") then Some true else None
mark_in _ = None

-- what an option of this name says with these arguments; None where it is refused
abbrev pub received_as : Policy → Name → List (List ℕ) → Option Meaning
received_as ours names.Address words = option_map (λ (t : Ip4 × ℕ). options.Address t.0 t.1) (address_in words)
received_as ours names.Peer words = option_map (λ n. options.Peer n) (number_in 0xFFFFFE words)
received_as ours names.Cipher words = option_map (λ cipher. options.Cipher cipher) (cipher_in ours words)
received_as ours names.Topology words = if is_subnet words then Some options.Nothing else None
received_as ours names.Gateway words = option_map (λ a. options.Gateway a) (gateway_in words)
received_as ours names.Route words = option_map (λ n. options.Route n) (route_in words)
received_as ours names.Ping words = option_map (λ n. options.Ping n) (number_in 0xFFFFFFFF words)
received_as ours names.PingRestart words = option_map (λ n. options.PingRestart n) (number_in 0xFFFFFFFF words)
received_as ours names.Continuation words = option_map (λ more. options.Continuation more) (mark_in words)
received_as ours names.Refused words = None
received_as ours names.Other words = Some options.Unread

-- what an option of these words says
abbrev pub received : Policy → List (List ℕ) → Option Meaning
received ours [] = Some options.Unread
received ours (name ∷ words) = received_as ours (name_of name) words
