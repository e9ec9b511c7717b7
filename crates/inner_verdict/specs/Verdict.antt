-- Where an inner packet goes, or why it is dropped: the first case that holds.
use Rattle.std.specs.Prelude.{ℕ, ◌+◌, ◌-◌, ◌/◌, ◌^◌, ◌==◌, ◌||◌, nat_lt, not, Bool, false, List, length, Option, Some, None, if◌then◌else◌}
use Rattle.vpn_base.specs.declared.address.Ip4.{Ip4}
use Rattle.vpn_base.specs.declared.names.Cid.{Cid}
use Rattle.vpn_base.specs.Network.{Network}
use Rattle.ip_packets.specs.Inner.{is_ip, source, destination}
use Rattle.route_table.specs.Owner.{Row, owner, is_owned_by}
use Rattle.inner_verdict.specs.declared.Verdict.{Verdict}
use Rattle.inner_verdict.specs.declared.Verdict.TheVariants.{NotIp, TooLong, Multicast, BadSource, ToClient, ToDevice, NoRoute}

-- the longest packet that is carried, in bytes
abbrev pub longest_packet : ℕ
longest_packet = 1500

-- the last address of the subnet, if there is one
abbrev pub is_broadcast : Option Network → Ip4 → Bool
is_broadcast None a = false
is_broadcast (Some subnet) a = a.0 == subnet.net.0 + 2 ^ (32 - subnet.len) - 1

-- an address of many: 224.0.0.0/4, 255.255.255.255, or the subnet's broadcast
abbrev pub is_group : Option Network → Ip4 → Bool
is_group subnet a = (a.0 / 2 ^ 28 == 14) || (a.0 == 2 ^ 32 - 1) || is_broadcast subnet a

-- by the owner of the destination: a client's packet reaches another client only where clients may reach each other
abbrev pub routed : Bool → Option Cid → Option Cid → Verdict
routed between None None = NoRoute
routed between None (Some target) = ToClient target
routed between (Some sender) None = ToDevice
routed between (Some sender) (Some target) = if between then ToClient target else ToDevice

-- by the owner of the source: a client may send from an address that it owns, the device from any
abbrev pub sourced : Bool → Option Cid → Option Cid → Option Cid → Verdict
sourced between None found target = routed between None target
sourced between (Some sender) found target =
    if is_owned_by sender found then routed between (Some sender) target else BadSource found

-- the verdict on a packet from a client, or from the device where there is none
unfoldable pub verdict : List Row → Option Network → Bool → Option Cid → List ℕ → Verdict
verdict rows subnet between sender packet =
    if not (is_ip packet) then NotIp
    else if nat_lt longest_packet (length packet) then TooLong
    else if is_group subnet (destination packet) then Multicast
    else sourced between sender (owner rows (source packet)) (owner rows (destination packet))
