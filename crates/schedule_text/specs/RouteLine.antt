-- The lines of a route file. Faults of a line are judged in the order Long, Words, Number, Address, Digits.
use Rattle.std.specs.Prelude.{ℕ, ◌-◌, ◌^◌, ◌==◌, nat_lt, Bool, true, List, [], ◌∷◌, length, codes, Option, Some, None, Result, Ok, Err, if◌then◌else◌}
use Rattle.std.specs.Str.{bytes_eq}
use Rattle.vpn_base.specs.declared.address.Ip4.{Ip4}
use Rattle.vpn_base.specs.Address.{ip4_of}
use Rattle.vpn_base.specs.Network.{Network}
use Rattle.vpn_base.specs.Number.{number_of}
use Rattle.schedule_text.specs.declared.kind.TextKind.{TextKind}
use Rattle.schedule_text.specs.declared.kind.TextKind.TheVariants as kinds
use Rattle.schedule_text.specs.declared.route_line.RouteLine.{RouteLine}
use Rattle.schedule_text.specs.declared.route_line.RouteLine.TheVariants as lines
use Rattle.schedule_text.specs.SealLines.{key_line, seal_line, unseal_line}
use Rattle.vpn_base.specs.WordCount.{are_none, one_of, two_of}
use Rattle.schedule_text.specs.Words.{words_of, network_of, bytes_of}

-- the longest line, in bytes, without its end
abbrev pub longest_line : ℕ
longest_line = 140000

-- an empty line, or a comment
abbrev pub is_blank : List ℕ → Bool
is_blank [] = true
is_blank (c ∷ cs) = c == 35

-- the number of a client: any number of 64 bits
abbrev pub client_of : List ℕ → Option ℕ
client_of word = number_of (2 ^ 64 - 1) word

-- `subnet NET/LEN`
abbrev pub subnet_of : Option Network → Result RouteLine TextKind
subnet_of None = Err kinds.Address
subnet_of (Some network) = Ok (lines.Subnet network)

-- the same, by its one word
abbrev pub subnet_line : Option (List ℕ) → Result RouteLine TextKind
subnet_line None = Err kinds.Words
subnet_line (Some word) = subnet_of (network_of word)

-- `client-to-client`
abbrev pub between_line : Bool → Result RouteLine TextKind
between_line alone = if alone then Ok lines.Between else Err kinds.Words

-- `add NET/LEN CID`
abbrev pub add_of : Option ℕ → Option Network → Result RouteLine TextKind
add_of None network = Err kinds.Number
add_of (Some cid) None = Err kinds.Address
add_of (Some cid) (Some network) = Ok (lines.Add network (record { 0 = cid }))

-- the same, by its two words
abbrev pub add_line : Option (List ℕ × List ℕ) → Result RouteLine TextKind
add_line None = Err kinds.Words
add_line (Some words) = add_of (client_of words.1) (network_of words.0)

-- `leave CID`
abbrev pub leave_of : Option ℕ → Result RouteLine TextKind
leave_of None = Err kinds.Number
leave_of (Some cid) = Ok (lines.Leave (record { 0 = cid }))

-- the same, by its one word
abbrev pub leave_line : Option (List ℕ) → Result RouteLine TextKind
leave_line None = Err kinds.Words
leave_line (Some word) = leave_of (client_of word)

-- `owner IP`
abbrev pub owner_of : Option Ip4 → Result RouteLine TextKind
owner_of None = Err kinds.Address
owner_of (Some a) = Ok (lines.Owner a)

-- the same, by its one word
abbrev pub owner_line : Option (List ℕ) → Result RouteLine TextKind
owner_line None = Err kinds.Words
owner_line (Some word) = owner_of (ip4_of word)

-- `from CID HEX`
abbrev pub from_of : Option ℕ → Option (List ℕ) → Result RouteLine TextKind
from_of None packet = Err kinds.Number
from_of (Some cid) None = Err kinds.Digits
from_of (Some cid) (Some packet) = Ok (lines.From (record { 0 = cid }) packet)

-- the same, by its two words
abbrev pub from_line : Option (List ℕ × List ℕ) → Result RouteLine TextKind
from_line None = Err kinds.Words
from_line (Some words) = from_of (client_of words.0) (bytes_of words.1)

-- `device HEX`
abbrev pub device_of : Option (List ℕ) → Result RouteLine TextKind
device_of None = Err kinds.Digits
device_of (Some packet) = Ok (lines.Device packet)

-- the same, by its one word
abbrev pub device_line : Option (List ℕ) → Result RouteLine TextKind
device_line None = Err kinds.Words
device_line (Some word) = device_of (bytes_of word)

-- by the first word; the others are its arguments
unfoldable pub command_line : List ℕ → List (List ℕ) → Result RouteLine TextKind
command_line command arguments =
    if bytes_eq command (codes "from") then from_line (two_of arguments)
    else if bytes_eq command (codes "device") then device_line (one_of arguments)
    else if bytes_eq command (codes "add") then add_line (two_of arguments)
    else if bytes_eq command (codes "owner") then owner_line (one_of arguments)
    else if bytes_eq command (codes "leave") then leave_line (one_of arguments)
    else if bytes_eq command (codes "subnet") then subnet_line (one_of arguments)
    else if bytes_eq command (codes "client-to-client") then between_line (are_none arguments)
    else if bytes_eq command (codes "key") then key_line arguments
    else if bytes_eq command (codes "seal") then seal_line arguments
    else if bytes_eq command (codes "unseal") then unseal_line arguments
    else Err kinds.Words

-- by all words
abbrev pub words_line : List (List ℕ) → Result RouteLine TextKind
words_line [] = Err kinds.Words
words_line (command ∷ arguments) = command_line command arguments

-- the line that a text without its end spells
unfoldable pub route_line : List ℕ → Result RouteLine TextKind
route_line text =
    if nat_lt longest_line (length text) then Err kinds.Long
    else if is_blank text then Ok lines.Blank
    else words_line (words_of text)
