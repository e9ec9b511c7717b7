-- The data packets of one key session at one end: what was sealed, and what opened and was accepted.
use Rattle.std.specs.Prelude.{ℕ, ◌+◌, List, Option, Some, None, Result, Ok, Err}
use Rattle.vpn_base.specs.declared.names.Freshness.{Freshness}
use Rattle.vpn_base.specs.declared.names.Freshness.TheVariants.{Fresh}
use Rattle.vpn_base.specs.declared.names.Moment.{Moment}
use Rattle.vpn_base.specs.declared.names.Role.{Role}
use Rattle.gcm_seal.specs.Gcm.{gcm}
use Rattle.packet_ids.specs.Freshness.{History, freshness, greatest_id, recorded}
use Rattle.sealed_packet.specs.Opening.{opening}
use Rattle.sealed_packet.specs.SealedPacket.{Sealing, packet}
use Rattle.peer_table.specs.DataPackets.{cipher_key, half_of, implicit_bytes}
use Rattle.peer_table.specs.KeySessions.{Keys}
use Rattle.peer_table.specs.Peer.{other}
use Rattle.data_channel.specs.declared.channel.DataFault.{DataFault}
use Rattle.data_channel.specs.declared.channel.DataFault.TheVariants.{NotSealed, Stale}

-- what seals the packets of one direction: authenticated encryption under its key, and the implicit bytes of its nonces
pub record Direction : Type 0 where
  pub sealing : Sealing
  pub implicit : List ℕ

-- A data channel: the role of this end, what seals the packets of an end of each role, their key id, the peer id in what is
-- sealed, every packet id of the other end that was accepted, and the last one that was sealed under.
pub record Channel : Type 0 where
  pub role : Role
  pub of_role : Role → Direction
  pub kid : ℕ
  pub peer_id : ℕ
  pub received : History
  pub sealed : ℕ

-- ---- the channel of a session's keys

-- what seals the packets of an end of this role under a session's keys
abbrev pub direction_of : Keys → Role → Direction
direction_of keys role = record {
  sealing = gcm (cipher_key keys.cipher (half_of role keys.block));
  implicit = implicit_bytes (half_of role keys.block);
}

-- the channel of an end of this role under a session's keys and key id, with what was accepted and the last id sealed
abbrev pub channel_of : Role → Keys → ℕ → History → ℕ → Channel
channel_of role keys kid received sealed = record {
  role = role;
  of_role = direction_of keys;
  kid = kid;
  peer_id = keys.peer_id;
  received = received;
  sealed = sealed;
}

-- ---- sealing

-- an inner packet, sealed by an end of this role under the next packet id
unfoldable pub next_packet_of : Role → Channel → List ℕ → List ℕ
next_packet_of role c inner = packet (c.of_role role).sealing (c.of_role role).implicit c.kid c.peer_id (c.sealed + 1) inner

-- the same by this end
abbrev pub next_packet : Channel → List ℕ → List ℕ
next_packet c inner = next_packet_of c.role c inner

-- one packet id more was sealed under
abbrev pub with_sealed : Channel → Channel
with_sealed c = record c { sealed = c.sealed + 1 }

-- ---- opening

-- the packet id and the inner packet to which a datagram of an end of this role opens
unfoldable pub opened_of : Role → Channel → List ℕ → Option (ℕ × List ℕ)
opened_of role c datagram = opening (c.of_role role).sealing (c.of_role role).implicit c.kid datagram

-- the same of the other end
abbrev pub opened_by : Channel → List ℕ → Option (ℕ × List ℕ)
opened_by c datagram = opened_of (other c.role) c datagram

-- the accepted ids, after an id that was judged so
abbrev pub received_judged : History → ℕ → Moment → Freshness → History
received_judged received id moment Fresh = recorded received id moment
received_judged received id moment kind = received

-- the accepted ids, after a datagram that opened to this
abbrev pub received_after : History → Moment → Option (ℕ × List ℕ) → History
received_after received moment None = received
received_after received moment (Some o) = received_judged received o.0 moment (freshness received o.0 moment)

-- the same in a channel: no other part of it changes
abbrev pub with_opened : Channel → Moment → Option (ℕ × List ℕ) → Channel
with_opened c moment o = record c { received = received_after c.received moment o }

-- the inner packet of an id that was judged so, or the refusal
abbrev pub answer_judged : History → ℕ → List ℕ → Freshness → Result (List ℕ) DataFault
answer_judged received id inner Fresh = Ok inner
answer_judged received id inner kind = Err (Stale kind id (greatest_id received.accepted))

-- what comes of a datagram that opened to this: it is refused where it does not open, and where its id is stale
abbrev pub answer_to : History → Moment → Option (ℕ × List ℕ) → Result (List ℕ) DataFault
answer_to received moment None = Err NotSealed
answer_to received moment (Some o) = answer_judged received o.0 o.1 (freshness received o.0 moment)
