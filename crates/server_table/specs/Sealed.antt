-- What it means that only packets open that were sealed: a premise about the ciphers, which nothing here proves.
use Rattle.std.specs.Prelude.{◌≡◌, ℕ, List, [], ◌∷◌, Some, slice_get}
use Rattle.std.specs.List.{IsAmong}
use Rattle.vpn_base.specs.declared.names.Role.TheVariants.{Client}
use Rattle.vpn_links.specs.declared.events.Kind.{Kind}
use Rattle.vpn_links.specs.declared.events.Kind.TheVariants.{Datagram}
use Rattle.peer_table.specs.KeySessions.{Keys, Session, keys_of, kid_of}
use Rattle.peer_table.specs.DataPackets.{opened_under}
use Rattle.server_table.specs.Table as table
use Rattle.server_table.specs.Runs.{Entry, after}

-- a data packet that a client sealed, with the numbers of the client and of its key session
pub record SealedPacket : Type 0 where
  pub client : ℕ
  pub session : ℕ
  pub datagram : List ℕ

-- a datagram opens under the keys of this session of this client
pub record OpensUnder (t : table.Table) (n k : ℕ) (datagram : List ℕ) : Type 0 where
  pub client : table.Client
  pub client_there : slice_get t.clients n ≡ Some client
  pub session : Session
  pub session_there : slice_get client.session.sessions k ≡ Some session
  pub keys : Keys
  pub has_keys : keys_of session.stage ≡ Some keys
  pub packet_id : ℕ
  pub inner : List ℕ
  pub opens : opened_under Client keys (kid_of k) datagram ≡ Some (packet_id, inner)

-- a datagram that opens under the keys of a session is among the packets that were sealed under it
abbrev pub OpensOnlySealed : List SealedPacket → table.Table → Kind → Type 0
OpensOnlySealed sealed t (Datagram from bytes) =
    (n k : ℕ) → OpensUnder t n k bytes → IsAmong sealed (record { client = n; session = k; datagram = bytes })
OpensOnlySealed sealed t kind = Unit {0}

-- the same for each datagram of a run
abbrev pub OnlySealedOpen : List SealedPacket → table.Table → List Entry → Type 0
OnlySealedOpen sealed t [] = Unit {0}
OnlySealedOpen sealed t (entry ∷ entries) = OpensOnlySealed sealed t entry.0.kind × OnlySealedOpen sealed (after t entry) entries
