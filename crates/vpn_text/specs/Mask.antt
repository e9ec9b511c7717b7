-- IPv4 masks of leading ones, as text.
use Rattle.std.specs.Prelude.{ℕ, zero, suc, ◌-◌, ◌^◌, ◌==◌, List, Option, Some, None, if◌then◌else◌}
use Rattle.vpn_base.specs.declared.address.Ip4.{Ip4}
use Rattle.vpn_base.specs.Address.{ip4_of, ip4_text}
use Rattle.vpn_base.specs.Network.{Network, network_from}

-- so many leading ones of 32 bits, at most 32
abbrev pub mask_number : ℕ → ℕ
mask_number len = 2 ^ 32 - 2 ^ (32 - len)

-- how many leading ones a number has, if it is a mask of at most this many
unfoldable pub length_upto : ℕ → ℕ → Option ℕ
length_upto zero n = if n == 0 then Some 0 else None
length_upto (suc len) n = if n == mask_number (suc len) then Some (suc len) else length_upto len n

-- how many leading ones an address has, if it is a mask
abbrev pub length_of : Option Ip4 → Option ℕ
length_of None = None
length_of (Some a) = length_upto 32 a.0

-- the length of the mask that a text spells, 0 to 32
unfoldable pub mask_of : List ℕ → Option ℕ
mask_of text = length_of (ip4_of text)

-- the mask of a length, as text
unfoldable pub mask_text : ℕ → List ℕ
mask_text len = ip4_text (record { 0 = mask_number len })

-- the network that the texts of an address and of a mask spell
unfoldable pub masked_network : List ℕ → List ℕ → Option Network
masked_network net mask = network_from (ip4_of net) (mask_of mask)
