-- Under which packet ids data packets are sealed: none is used twice under one key session.
use Rattle.std.specs.Prelude.{◌≡◌, ℕ, ◌≤◌, ◌<◌, List, [], ◌∷◌, Some, slice_get}
use Rattle.std.specs.List.{AllByRecursion, filter}
use Rattle.vpn_base.specs.declared.address.Addr.{Addr}
use Rattle.vpn_base.specs.declared.names.Role.TheVariants as roles
use Rattle.vpn_links.specs.Actions.{Action, Wire, is_wire}
use Rattle.peer_table.specs.KeySessions.{Keys, Session, keys_of, kid_of}
use Rattle.peer_table.specs.DataPackets.{sealed_under}
use Rattle.server_table.specs.Table.{Client, Table}
use Rattle.server_table.specs.Courses.{Course}
use Rattle.server_laws.specs.HandedOn.{sealed_by}

-- by the numbers of a client and of its key session, and by the packet id
pub record Sealing : Type 0 where
  pub client : ℕ
  pub session : ℕ
  pub id : ℕ

-- these are the keys of this session of this client
pub record HasKeysAt (t : Table) (n k : ℕ) (keys : Keys) : Type 0 where
  pub client : Client
  pub client_there : slice_get t.clients n ≡ Some client
  pub session : Session
  pub session_there : slice_get client.session.sessions k ≡ Some session
  pub has_keys : keys_of session.stage ≡ Some keys

-- Between two tables a packet was sealed so: the effect sends it under the keys of the session with this id, which lies above the last one that
-- was sealed under them before, and not above the last one that was since.
pub record IsSealing (before later : Table) (s : Sealing) (action : Action) : Type 0 where
  pub to : Addr
  pub inner : List ℕ
  pub keys : Keys
  pub has_keys : HasKeysAt later s.client s.session keys
  pub is_packet : action ≡ Wire to (sealed_under roles.Server keys (kid_of s.session) s.id inner)
  pub above : sealed_by s.session (slice_get before.clients s.client) < s.id
  pub upto : s.id ≤ sealed_by s.session (slice_get later.clients s.client)

-- each of these effects was sealed so
abbrev pub AreSealings : Table → Table → List Sealing → List Action → Type 0
AreSealings before later [] [] = Unit {0}
AreSealings before later (s ∷ sealings) (action ∷ actions) = IsSealing before later s action × AreSealings before later sealings actions
AreSealings before later sealings actions = ⊥

-- of each session the ids rise
abbrev pub AreRising : List Sealing → Type 0
AreRising [] = Unit {0}
AreRising (s ∷ sealings) = AllByRecursion (λ (r : Sealing). r.client ≡ s.client → r.session ≡ s.session → s.id < r.id) sealings × AreRising sealings

-- the effects of a course that go out on the wire were sealed since a table, under ids that rise
pub record IsSealedRising (before : Table) (c : Course) : Type 0 where
  pub sealings : List Sealing
  pub are_sealings : AreSealings before c.table sealings (filter is_wire c.effects)
  pub are_rising : AreRising sealings
