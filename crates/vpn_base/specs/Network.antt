-- Blocks of IPv4 addresses that begin with the same bits.
use Rattle.std.specs.Prelude.{◌≡◌, ℕ, ◌-◌, ◌/◌, ◌%◌, ◌^◌, ◌≤◌, ◌==◌, Bool, Option, Some, None, if◌then◌else◌}
use Rattle.vpn_base.specs.declared.address.Ip4.{Ip4}

-- the addresses whose first len bits are those of net
pub record Network : Type 0 where
  pub net : Ip4
  pub len : ℕ

-- len is at most 32, and all bits of net past it are 0
abbrev pub IsNetwork : Ip4 → ℕ → Type 0
IsNetwork net len = (len ≤ 32) × (net.0 % 2 ^ (32 - len) ≡ 0)

-- whether the network contains the address
abbrev pub contains : Network → Ip4 → Bool
contains network a = a.0 / 2 ^ (32 - network.len) == network.net.0 / 2 ^ (32 - network.len)

-- the network of an address and a length, where no bit of the address past the length is set
abbrev pub network_from : Option Ip4 → Option ℕ → Option Network
network_from (Some net) (Some len) =
    if net.0 % 2 ^ (32 - len) == 0 then Some (record { net = net; len = len }) else None
network_from _ _ = None
