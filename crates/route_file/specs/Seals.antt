-- What the lines print that seal and open data packets.
use Rattle.std.specs.Prelude.{ℕ, ◌==◌, List, [], ◌∷◌, ◌++◌, codes, Option, Some, None, Result, Ok, if◌then◌else◌}
use Rattle.std.specs.Fmt.{decimal}
use Rattle.hex.specs.Hex.{encode_lower}
use Rattle.gcm_seal.specs.Gcm.{gcm}
use Rattle.opcode_codec.specs.Packet.{PacketForm, Inner, packet_of}
use Rattle.vpn_base.specs.declared.names.Malformed.{Malformed}
use Rattle.sealed_packet.specs.SealedPacket.{packet}
use Rattle.sealed_packet.specs.Opening.{opening}
use Rattle.route_file.specs.Keys.{PacketKey}

-- bytes as hexadecimal digits in small letters, `-` for none
abbrev pub bytes_text : List ℕ → List ℕ
bytes_text [] = codes "-"
bytes_text (b ∷ bytes) = encode_lower (b ∷ bytes)

-- `seal CID KID ID HEX`: the data packet, whose peer id is the client's number
abbrev pub seal_text : Option PacketKey → ℕ → ℕ → ℕ → List ℕ → List ℕ
seal_text None cid kid id inner = codes "no-key"
seal_text (Some k) cid kid id inner = codes "sealed " ++ bytes_text (packet (gcm k.key) k.iv kid cid id inner)

-- a packet that opened, or none
abbrev pub opened_text : Option (ℕ × List ℕ) → List ℕ
opened_text None = codes "not-sealed"
opened_text (Some p) = codes "opened " ++ decimal p.0 ++ codes " " ++ bytes_text p.1

-- what a datagram opens to under a key, where this client's number is the peer id that stands in it
abbrev pub opened_for : PacketKey → ℕ → ℕ → ℕ → List ℕ → Option (ℕ × List ℕ)
opened_for k cid kid peer datagram = if peer == cid then opening (gcm k.key) k.iv kid datagram else None

-- a datagram that is no data packet is malformed
abbrev pub read_text : Result PacketForm Malformed → PacketKey → ℕ → ℕ → List ℕ → List ℕ
read_text (Ok (Inner f)) k cid kid datagram = opened_text (opened_for k cid kid f.peer datagram)
read_text _ k cid kid datagram = codes "malformed"

-- `unseal CID KID HEX`: the packet id and the inner packet, where the datagram opens
abbrev pub unseal_text : Option PacketKey → ℕ → ℕ → List ℕ → List ℕ
unseal_text None cid kid datagram = codes "no-key"
unseal_text (Some k) cid kid datagram = read_text (packet_of datagram) k cid kid datagram
