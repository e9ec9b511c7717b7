-- The fields of an IPv4 packet (RFC 791, section 3.1) that routing reads.
use Rattle.std.specs.Prelude.{ℕ, ◌/◌, ◌==◌, ◌&&◌, nat_le, Bool, List, length, take, drop, slice_index}
use Rattle.std.specs.Int.{w32, from_be_bytes}
use Rattle.vpn_base.specs.declared.address.Ip4.{Ip4}

-- 20 bytes of header at least, and the version 4 in the first half byte
abbrev pub is_ip : List ℕ → Bool
is_ip packet = nat_le 20 (length packet) && (slice_index packet 0 / 16 == 4)

-- the address in the four bytes from a place on
abbrev pub address_at : ℕ → List ℕ → Ip4
address_at place packet = record { 0 = from_be_bytes w32 (take 4 (drop place packet)) }

-- bytes 12 to 15
unfoldable pub source : List ℕ → Ip4
source packet = address_at 12 packet

-- bytes 16 to 19
unfoldable pub destination : List ℕ → Ip4
destination packet = address_at 16 packet
