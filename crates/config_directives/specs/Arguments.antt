-- The arguments of each directive (OpenVPN 2.6, openvpn(8)), and the ranges of this profile.
use Rattle.std.specs.Prelude.{ℕ, ◌*◌, ◌==◌, ◌&&◌, ◌||◌, nat_le, nat_eq, Bool, true, false, List, [], ◌∷◌, codes, Option, Some, None, option_map, option_and_then, is_some, find, filter_map, bytes_eq, if◌then◌else◌}
use Rattle.std.specs.Option.{option_map_or}
use Rattle.std.specs.List.{slice_split, starts_with}
use Rattle.vpn_base.specs.declared.address.Ip4.{Ip4}
use Rattle.vpn_base.specs.declared.names.Cipher.{Cipher}
use Rattle.vpn_base.specs.declared.names.Cipher.TheVariants.{Aes128Gcm, Aes256Gcm}
use Rattle.vpn_base.specs.declared.names.Policy.{Policy}
use Rattle.vpn_base.specs.declared.names.Policy.TheVariants.{Choose}
use Rattle.vpn_base.specs.Address.{ip4_of}
use Rattle.vpn_base.specs.Network.{Network}
use Rattle.vpn_base.specs.Number.{number_of}
use Rattle.vpn_base.specs.WordCount.{one_of, two_of, three_of}
use Rattle.vpn_text.specs.CipherWord.{cipher_named}
use Rattle.vpn_text.specs.Mask.{masked_network}
use Rattle.vpn_text.specs.Quoted.{may_be_pushed}
use Rattle.config_directives.specs.declared.numbers.NumberDirective.{NumberDirective}
use Rattle.config_directives.specs.declared.numbers.NumberDirective.TheVariants.{Port}
use Rattle.config_directives.specs.Numbers.{range_of}

-- two values, if both are there
abbrev pub both : {A B : Type 0} → Option A → Option B → Option (A × B)
both (Some a) (Some b) = Some (a, b)
both _ _ = None

-- the value, if it passes
abbrev pub if_passes : {A : Type 0} → (A → Bool) → Option A → Option A
if_passes test None = None
if_passes test (Some a) = if test a then Some a else None

-- exactly this word
abbrev pub is_word : List ℕ → List (List ℕ) → Bool
is_word word arguments = option_map_or (λ a. bytes_eq a word) (one_of arguments) false

-- a decimal number from low to high
abbrev pub number_in : ℕ → ℕ → List ℕ → Option ℕ
number_in low high word = if_passes (nat_le low) (number_of high word)

-- exactly one such number
abbrev pub one_number : ℕ → ℕ → List (List ℕ) → Option ℕ
one_number low high arguments = option_and_then (number_in low high) (one_of arguments)

-- the number that stands behind the name of a directive of one number
abbrev pub number_behind : NumberDirective → List (List ℕ) → Option ℕ
number_behind number arguments = one_number (range_of number).low (range_of number).high arguments

-- a port, where another directive has one
abbrev pub port_of : List ℕ → Option ℕ
port_of word = number_in (range_of Port).low (range_of Port).high word

-- `server NET MASK`: a network whose mask has 8 to 30 ones
abbrev pub is_server_length : Network → Bool
is_server_length network = nat_le 8 network.len && nat_le network.len 30

-- the network that stands behind `server`
abbrev pub server_network : List (List ℕ) → Option Network
server_network arguments = option_and_then (λ (words : List ℕ × List ℕ). if_passes is_server_length (masked_network words.0 words.1)) (two_of arguments)

-- `dev NAME`: it begins with `tun`
abbrev pub device_name : List (List ℕ) → Option (List ℕ)
device_name arguments = if_passes (λ name. starts_with nat_eq name (codes "tun")) (one_of arguments)

-- `topology subnet`
abbrev pub is_subnet : List (List ℕ) → Bool
is_subnet arguments = is_word (codes "subnet") arguments

-- `proto udp` or `proto udp4`
abbrev pub is_udp : List (List ℕ) → Bool
is_udp arguments = is_word (codes "udp") arguments || is_word (codes "udp4") arguments

-- `local IP`
abbrev pub local_address : List (List ℕ) → Option Ip4
local_address arguments = option_and_then ip4_of (one_of arguments)

-- `remote IP [PORT [udp]]`: the address, and the port if there is one
abbrev pub remote_at : List ℕ → List ℕ → Option (Ip4 × Option ℕ)
remote_at ip port = both (ip4_of ip) (option_map (λ n. Some n) (port_of port))

-- the server by one word, two or three
abbrev pub remote_of : Option (List ℕ) → Option (List ℕ × List ℕ) → Option (List ℕ × List ℕ × List ℕ) → Option (Ip4 × Option ℕ)
remote_of (Some ip) two three = both (ip4_of ip) (Some None)
remote_of None (Some words) three = remote_at words.0 words.1
remote_of None None (Some words) = if bytes_eq words.2 (codes "udp") then remote_at words.0 words.1 else None
remote_of None None None = None

-- the server that stands behind `remote`
abbrev pub remote_end : List (List ℕ) → Option (Ip4 × Option ℕ)
remote_end arguments = remote_of (one_of arguments) (two_of arguments) (three_of arguments)

-- `keepalive N M`: N is 1 to 3,600 seconds, and M from twice that to 7,200
abbrev pub keepalive_behind : Option ℕ → List ℕ → Option (ℕ × ℕ)
keepalive_behind None restart = None
keepalive_behind (Some n) restart = both (Some n) (number_in (2 * n) 7200 restart)

-- the seconds that stand behind `keepalive`
abbrev pub keepalive_times : List (List ℕ) → Option (ℕ × ℕ)
keepalive_times arguments = option_and_then (λ (words : List ℕ × List ℕ). keepalive_behind (number_in 1 3600 words.0) words.1) (two_of arguments)

-- `push TEXT`
abbrev pub push_text : List (List ℕ) → Option (List ℕ)
push_text arguments = if_passes may_be_pushed (one_of arguments)

-- `route NET [MASK]`: without a mask it is one address
abbrev pub route_of : Option (List ℕ) → Option (List ℕ × List ℕ) → Option Network
route_of (Some net) two = masked_network net (codes "255.255.255.255")
route_of None (Some words) = masked_network words.0 words.1
route_of None None = None

-- the network that stands behind `route`
abbrev pub route_network : List (List ℕ) → Option Network
route_network arguments = route_of (one_of arguments) (two_of arguments)

-- whether the second cipher is the other one
abbrev pub is_other : Cipher → Cipher → Bool
is_other Aes128Gcm Aes128Gcm = false
is_other Aes128Gcm Aes256Gcm = true
is_other Aes256Gcm Aes128Gcm = true
is_other Aes256Gcm Aes256Gcm = false

-- each cipher counts once, at its first place, and there has to be one
abbrev pub policy_of : List Cipher → Option Policy
policy_of [] = None
policy_of (first ∷ more) = Some (Choose first (find (is_other first) more))

-- `data-ciphers LIST`: the ciphers among the names between colons; all other names are passed over
abbrev pub ciphers_in : List ℕ → List Cipher
ciphers_in names = filter_map cipher_named (slice_split (λ byte. byte == 58) names)

-- the policy that stands behind `data-ciphers`
abbrev pub cipher_policy : List (List ℕ) → Option Policy
cipher_policy arguments = option_and_then (λ names. policy_of (ciphers_in names)) (one_of arguments)

-- the width of the window against replayed packets, and its seconds, where nothing is said of them
abbrev pub default_window : ℕ × ℕ
default_window = (64, 15)

-- 1 to 1,024 packet ids
abbrev pub width_of : List ℕ → Option ℕ
width_of word = number_in 1 1024 word

-- `replay-window N [T]`: N is such a width, and T 0 to 600 seconds
abbrev pub replay_of : Option (List ℕ) → Option (List ℕ × List ℕ) → Option (ℕ × ℕ)
replay_of (Some width) two = both (width_of width) (Some default_window.1)
replay_of None (Some words) = both (width_of words.0) (number_in 0 600 words.1)
replay_of None None = None

-- the width and the seconds that stand behind `replay-window`
abbrev pub replay_window : List (List ℕ) → Option (ℕ × ℕ)
replay_window arguments = replay_of (one_of arguments) (two_of arguments)

-- `management PATH unix` or `management IP PORT`
abbrev pub is_place : List ℕ × List ℕ → Bool
is_place words = bytes_eq words.1 (codes "unix") || is_some (both (ip4_of words.0) (port_of words.1))

-- whether a place for the management console stands behind `management`
abbrev pub is_console : List (List ℕ) → Bool
is_console arguments = option_map_or is_place (two_of arguments) false
