-- What it means that a data packet of a client opens, for the first time and under a usable key.
use Rattle.std.specs.Prelude.{◌≡◌, ◌⊎◌, ◌<◌, ◌+◌, ◌*◌, ℕ, true, List, [], ◌∷◌, false, Some, Ok, slice_get, take}
use Rattle.vpn_base.specs.declared.address.Addr.{Addr}
use Rattle.vpn_base.specs.declared.names.Freshness.TheVariants.{Fresh}
use Rattle.vpn_base.specs.declared.names.Role.TheVariants as roles
use Rattle.vpn_base.specs.declared.names.Timers.{Timers}
use Rattle.vpn_links.specs.declared.events.Event.{Event}
use Rattle.vpn_links.specs.declared.events.Kind.TheVariants.{Datagram}
use Rattle.packet_ids.specs.Freshness.{freshness}
use Rattle.opcode_codec.specs.DataPacket.{DataForm}
use Rattle.opcode_codec.specs.Packet.{Inner, packet_of}
use Rattle.peer_table.specs.KeySessions.{Keys, Session, has_keys, keys_of, kid_of}
use Rattle.peer_table.specs.DataPackets.{data_kid, opened_under}
use Rattle.server_table.specs.Table.{Client, Table}
use Rattle.server_table.specs.Lookups.{client_here}
use Rattle.server_table.specs.Step.{is_over, moment_of}

-- a number is one of these
abbrev pub IsOneOf : List ℕ → ℕ → Type 0
IsOneOf [] n = ⊥
IsOneOf (m ∷ numbers) n = (n ≡ m) ⊎ IsOneOf numbers n

-- key session `k` is the last of these that has keys
pub record IsLastWithKeys (sessions : List Session) (k : ℕ) : Type 0 where
  pub session : Session
  pub there : slice_get sessions k ≡ Some session
  pub keyed : has_keys session ≡ true
  pub none_later : (j : ℕ) (x : Session) → k < j → slice_get sessions j ≡ Some x → has_keys x ≡ false

-- Key session `k` may be used at this moment: it is the last with keys; or the one before it among those with keys, and the last one began
-- less than the seconds of the transition window ago.
pub data IsUsable (timers : Timers) (moment : ℕ) (sessions : List Session) (k : ℕ) : Type 0 where
  IsLast : IsLastWithKeys sessions k → IsUsable timers moment sessions k
  IsOneBefore : (last : ℕ) (is_last : IsLastWithKeys sessions last) → IsLastWithKeys (take last sessions) k →
      moment < is_last.session.began + 1000 * timers.tran → IsUsable timers moment sessions k

-- At this moment, over this table, the datagram is a data packet of the client of number `n`, which is here and has the peer id that stands
-- in it; key session `k` of this client is usable, has the packet's key id, and has keys; under these keys the datagram opens to packet id
-- `id` and the inner packet; and this id is fresh, by all that were ever accepted in the session.
pub record IsAccepted (t : Table) (moment : ℕ) (datagram : List ℕ) (n k id : ℕ) (inner : List ℕ) : Type 0 where
  pub form : DataForm
  pub is_data : packet_of datagram ≡ Ok (Inner form)
  pub client : Client
  pub client_here : client_here t n ≡ Some client
  pub peer_id : client.peer_id ≡ form.peer
  pub session : Session
  pub session_there : slice_get client.session.sessions k ≡ Some session
  pub is_usable : IsUsable t.settings.timers moment client.session.sessions k
  pub key_id : kid_of k ≡ data_kid datagram
  pub keys : Keys
  pub has_keys : keys_of session.stage ≡ Some keys
  pub opens : opened_under roles.Client keys (kid_of k) datagram ≡ Some (id, inner)
  pub is_fresh : freshness session.received id (record { 0 = moment }) ≡ Fresh

-- A server that takes events still accepts a data packet in this event.
pub record Accepts (t : Table) (event : Event) (n k id : ℕ) (inner : List ℕ) : Type 0 where
  pub is_taken : is_over t ≡ false
  pub from : Addr
  pub datagram : List ℕ
  pub comes : event.kind ≡ Datagram from datagram
  pub accepted : IsAccepted t (moment_of t event) datagram n k id inner
