-- Data packets of one client: which keys seal and open them.
use Rattle.std.specs.Prelude.{ℕ, ◌+◌, ◌-◌, ◌^◌, ◌%◌, ◌==◌, Bool, false, List, take, drop, Option, Some, None, slice_index, Result, Ok, Err}
use Rattle.vpn_base.specs.declared.names.Cipher.{Cipher}
use Rattle.vpn_base.specs.declared.names.Cipher.TheVariants.{Aes128Gcm, Aes256Gcm}
use Rattle.vpn_base.specs.declared.names.Freshness.{Freshness}
use Rattle.vpn_base.specs.declared.names.Freshness.TheVariants.{Fresh}
use Rattle.vpn_base.specs.declared.names.Moment.{Moment}
use Rattle.vpn_base.specs.declared.names.Role.{Role}
use Rattle.vpn_base.specs.declared.names.Role.TheVariants.{Server, Client}
use Rattle.gcm_seal.specs.Gcm.{gcm}
use Rattle.packet_ids.specs.declared.sending.Spent.{Spent}
use Rattle.packet_ids.specs.Freshness.{freshness, greatest_id, recorded}
use Rattle.sealed_packet.specs.Opening.{opening}
use Rattle.sealed_packet.specs.SealedPacket.{packet}
use Rattle.peer_table.specs.declared.outcomes.SessionFault.{SessionFault}
use Rattle.peer_table.specs.declared.outcomes.SessionFault.TheVariants.{BadKey, NotSealed, Stale}
use Rattle.peer_table.specs.Places.{changed_at}
use Rattle.peer_table.specs.KeySessions.{Keys, Session, keys_of, kid_of, newest_usable, session_at, usable_with}
use Rattle.peer_table.specs.Peer.{Outcome, Peer, answered, other}

-- ---- the keys of one direction

-- the half of the key block for packets of this end: those of the client first, then those of the server
abbrev pub half_of : Role → List ℕ → List ℕ
half_of Client block = take 128 block
half_of Server block = drop 128 block

-- the key of a cipher: the first 16 or 32 of the 64 cipher bytes of a half
abbrev pub cipher_key : Cipher → List ℕ → List ℕ
cipher_key Aes128Gcm half = take 16 half
cipher_key Aes256Gcm half = take 32 half

-- the implicit bytes of the nonce: the first 8 of the 64 HMAC bytes of a half
abbrev pub implicit_bytes : List ℕ → List ℕ
implicit_bytes half = take 8 (drop 64 half)

-- the data packet in which an end of this role seals an inner packet: key id, peer id, packet id
unfoldable pub sealed_under : Role → Keys → ℕ → ℕ → List ℕ → List ℕ
sealed_under role k kid id inner =
    packet (gcm (cipher_key k.cipher (half_of role k.block))) (implicit_bytes (half_of role k.block)) kid k.peer_id id inner

-- the packet id and the inner packet to which a datagram of an end of this role opens
unfoldable pub opened_under : Role → Keys → ℕ → List ℕ → Option (ℕ × List ℕ)
opened_under role k kid datagram =
    opening (gcm (cipher_key k.cipher (half_of role k.block))) (implicit_bytes (half_of role k.block)) kid datagram

-- ---- sealing

-- whether the last packet id was used
abbrev pub ids_are_spent : Session → Bool
ids_are_spent s = s.sealed == 2 ^ 32 - 1

-- one packet id more was used
abbrev pub with_sealed : ℕ → Peer → Peer
with_sealed n p = record p { sessions = changed_at n (λ s. record s { sealed = s.sealed + 1 }) p.sessions }

-- under these keys, with the next packet id of the session
abbrev pub sealed_by : Peer → List ℕ → ℕ → Session → Option Keys → Bool → Outcome (Result (List ℕ) Spent)
sealed_by p inner n s (Some k) false = answered (with_sealed n p) (Ok (sealed_under p.role k (kid_of n) (s.sealed + 1) inner))
sealed_by p inner n s keys spent = answered p (Err (record {}))

-- in the session of this number; before there are keys nothing is sealed
abbrev pub sealed_in : Peer → List ℕ → Option ℕ → Option Session → Outcome (Result (List ℕ) Spent)
sealed_in p inner (Some n) (Some s) = sealed_by p inner n s (keys_of s.stage) (ids_are_spent s)
sealed_in p inner n s = answered p (Err (record {}))

-- an inner packet is sealed under the newest usable keys, with their peer id and the next packet id; spent exactly where that id would pass
-- the last one, or where there are no keys
unfoldable pub sealed_to : List ℕ → Peer → Outcome (Result (List ℕ) Spent)
sealed_to inner p = sealed_in p inner (newest_usable p.sessions) (session_at p.sessions (newest_usable p.sessions))

-- ---- opening

-- the key id in a datagram's first byte
abbrev pub data_kid : List ℕ → ℕ
data_kid datagram = slice_index datagram 0 % 8

-- an id was accepted under the keys of a session
abbrev pub with_received : ℕ → ℕ → Moment → Peer → Peer
with_received n id moment p = record p { sessions = changed_at n (λ s. record s { received = recorded s.received id moment }) p.sessions }

-- it opened: its id is accepted where it is fresh
abbrev pub opened_judged : Peer → ℕ → Session → Moment → ℕ → List ℕ → Freshness → Outcome (Result (List ℕ) SessionFault)
opened_judged p n s moment id inner Fresh = answered (with_received n id moment p) (Ok inner)
opened_judged p n s moment id inner kind = answered p (Err (Stale kind id (greatest_id s.received.accepted)))

-- whether it opened under the keys of a session
abbrev pub opened_as : Peer → ℕ → Session → Moment → Option (ℕ × List ℕ) → Outcome (Result (List ℕ) SessionFault)
opened_as p n s moment None = answered p (Err NotSealed)
opened_as p n s moment (Some o) = opened_judged p n s moment o.0 o.1 (freshness s.received o.0 moment)

-- the keys of a session, which a usable one has
abbrev pub opened_by : Peer → List ℕ → ℕ → Session → Moment → Option Keys → Outcome (Result (List ℕ) SessionFault)
opened_by p datagram n s moment None = answered p (Err NotSealed)
opened_by p datagram n s moment (Some k) = opened_as p n s moment (opened_under (other p.role) k (kid_of n) datagram)

-- whether a usable session has its key id
abbrev pub opened_in : Peer → List ℕ → Moment → Option ℕ → Option Session → Outcome (Result (List ℕ) SessionFault)
opened_in p datagram moment (Some n) (Some s) = opened_by p datagram n s moment (keys_of s.stage)
opened_in p datagram moment n s = answered p (Err (BadKey (data_kid datagram)))

-- A data packet has come. Refused in this order: no usable session has its key id, it does not open, its id is stale. Else its id is
-- accepted, and the answer is the inner packet.
unfoldable pub data_came : List ℕ → Moment → Peer → Outcome (Result (List ℕ) SessionFault)
data_came datagram moment p =
    opened_in p datagram moment (usable_with p.timers moment.0 p.sessions (data_kid datagram))
    (session_at p.sessions (usable_with p.timers moment.0 p.sessions (data_kid datagram)))
