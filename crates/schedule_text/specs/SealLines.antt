-- The lines of a route file that name keys, and those that seal and open data packets.
use Rattle.std.specs.Prelude.{◌≡◌, ℕ, ◌-◌, ◌^◌, ◌<◌, ◌≤◌, ◌==◌, nat_lt, List, [], ◌∷◌, length, codes, Option, Some, None, Result, Ok, Err, if◌then◌else◌}
use Rattle.std.specs.Str.{bytes_eq}
use Rattle.vpn_base.specs.declared.names.Cipher.{Cipher}
use Rattle.vpn_base.specs.declared.names.Cipher.TheVariants.{Aes128Gcm, Aes256Gcm}
use Rattle.vpn_base.specs.Number.{number_of}
use Rattle.schedule_text.specs.declared.kind.TextKind.{TextKind}
use Rattle.schedule_text.specs.declared.kind.TextKind.TheVariants as kinds
use Rattle.schedule_text.specs.declared.route_line.RouteLine.{RouteLine}
use Rattle.schedule_text.specs.declared.route_line.RouteLine.TheVariants as lines
use Rattle.vpn_base.specs.WordCount.{are_none}
use Rattle.schedule_text.specs.Words.{bytes_of}

-- the number of a client that has a peer id: 24 bits, of which all ones stand for none
abbrev pub peer_of : List ℕ → Option ℕ
peer_of word = number_of 0xFFFFFE word

-- a key id has 3 bits
abbrev pub key_id_of : List ℕ → Option ℕ
key_id_of word = number_of 7 word

-- a number that is not 0
abbrev pub above_zero : Option ℕ → Option ℕ
above_zero None = None
above_zero (Some n) = if n == 0 then None else Some n

-- a packet id has 32 bits, and is not 0
abbrev pub packet_id_of : List ℕ → Option ℕ
packet_id_of word = above_zero (number_of (2 ^ 32 - 1) word)

-- the cipher of a name
abbrev pub cipher_of : List ℕ → Option Cipher
cipher_of word =
    if bytes_eq word (codes "AES-128-GCM") then Some Aes128Gcm
    else if bytes_eq word (codes "AES-256-GCM") then Some Aes256Gcm
    else None

-- how many bytes a cipher's key has
abbrev pub key_length : Cipher → ℕ
key_length Aes128Gcm = 16
key_length Aes256Gcm = 32

-- bytes of exactly this number
abbrev pub sized : ℕ → Option (List ℕ) → Option (List ℕ)
sized n None = None
sized n (Some bytes) = if length bytes == n then Some bytes else None

-- `key CID KID CIPHER KEY IV`
abbrev pub key_of : Option ℕ → Option ℕ → Cipher → Option (List ℕ) → Option (List ℕ) → Result RouteLine TextKind
key_of (Some cid) (Some kid) cipher (Some key) (Some iv) = Ok (lines.Key (record { 0 = cid }) kid cipher key iv)
key_of (Some cid) (Some kid) cipher key iv = Err kinds.Digits
key_of cid kid cipher key iv = Err kinds.Number

-- another cipher is no word of the line
abbrev pub key_under : Option Cipher → List ℕ → List ℕ → List ℕ → List ℕ → Result RouteLine TextKind
key_under None cid kid key iv = Err kinds.Words
key_under (Some cipher) cid kid key iv =
    key_of (peer_of cid) (key_id_of kid) cipher (sized (key_length cipher) (bytes_of key)) (sized 8 (bytes_of iv))

-- five words
unfoldable pub key_line : List (List ℕ) → Result RouteLine TextKind
key_line (cid ∷ kid ∷ cipher ∷ key ∷ iv ∷ []) = key_under (cipher_of cipher) cid kid key iv
key_line _ = Err kinds.Words

-- the longest HEX word of `seal`, in characters
abbrev pub longest_seal : ℕ
longest_seal = 3000

-- the longest HEX word of `unseal`, in characters
abbrev pub longest_unseal : ℕ
longest_unseal = 3048

-- `seal CID KID ID HEX`
abbrev pub seal_of : Option ℕ → Option ℕ → Option ℕ → Option (List ℕ) → Result RouteLine TextKind
seal_of (Some cid) (Some kid) (Some id) (Some inner) = Ok (lines.Seal (record { 0 = cid }) kid id inner)
seal_of (Some cid) (Some kid) (Some id) None = Err kinds.Digits
seal_of cid kid id inner = Err kinds.Number

-- a HEX word that is too long is the first fault, be there more words behind it or not
unfoldable pub seal_line : List (List ℕ) → Result RouteLine TextKind
seal_line (cid ∷ kid ∷ id ∷ inner ∷ more) =
    if nat_lt longest_seal (length inner) then Err kinds.Long
    else if are_none more then seal_of (peer_of cid) (key_id_of kid) (packet_id_of id) (bytes_of inner)
    else Err kinds.Words
seal_line _ = Err kinds.Words

-- `unseal CID KID HEX`
abbrev pub unseal_of : Option ℕ → Option ℕ → Option (List ℕ) → Result RouteLine TextKind
unseal_of (Some cid) (Some kid) (Some datagram) = Ok (lines.Unseal (record { 0 = cid }) kid datagram)
unseal_of (Some cid) (Some kid) None = Err kinds.Digits
unseal_of cid kid datagram = Err kinds.Number

-- a HEX word that is too long is the first fault here as well
unfoldable pub unseal_line : List (List ℕ) → Result RouteLine TextKind
unseal_line (cid ∷ kid ∷ datagram ∷ more) =
    if nat_lt longest_unseal (length datagram) then Err kinds.Long
    else if are_none more then unseal_of (peer_of cid) (key_id_of kid) (bytes_of datagram)
    else Err kinds.Words
unseal_line _ = Err kinds.Words

-- the numbers and bytes of a line are within their bounds, where its kind has any
abbrev pub IsBounded : RouteLine → Type 0
IsBounded lines.Blank = Unit {0}
IsBounded (lines.Subnet network) = Unit {0}
IsBounded lines.Between = Unit {0}
IsBounded (lines.Add network cid) = Unit {0}
IsBounded (lines.Leave cid) = Unit {0}
IsBounded (lines.Owner address) = Unit {0}
IsBounded (lines.From cid packet) = Unit {0}
IsBounded (lines.Device packet) = Unit {0}
IsBounded (lines.Key cid kid cipher key iv) = (cid.0 < 2 ^ 24) × (kid < 8) × (length key ≡ key_length cipher) × (length iv ≡ 8)
IsBounded (lines.Seal cid kid id inner) = (cid.0 < 2 ^ 24) × (kid < 8) × (length inner ≤ 1500)
IsBounded (lines.Unseal cid kid datagram) = (cid.0 < 2 ^ 24) × (kid < 8) × (length datagram ≤ 1524)
