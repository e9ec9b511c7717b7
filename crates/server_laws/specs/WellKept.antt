-- What holds of every table that a run comes to, of its rows, its learned hosts, its clients and its queue.
use Rattle.std.specs.Prelude.{◌≡◌, ℕ, ◌≤◌, ◌^◌, is_some, true, List, [], ◌∷◌, ◌++◌, length, Option, Some, None, slice_get}
use Rattle.std.specs.List.{AllByRecursion, list_any}
use Rattle.vpn_base.specs.declared.names.Role.TheVariants.{Server}
use Rattle.route_table.specs.Owner.{Row, owner, without}
use Rattle.route_table.specs.Learned.{Host, rows_of}
use Rattle.ovpn_config.specs.declared.settings.Settings.{Settings}
use Rattle.peer_table.specs.KeySessions.{Keys, Session, has_keys, keys_of}
use Rattle.server_table.specs.Table.{Client, Established, FileState, Known, Table}
use Rattle.server_table.specs.Lookups.{cid}
use Rattle.server_table.specs.Establishing.{networks_of}
use Rattle.server_table.specs.InnerPackets.{most_queued}
use Rattle.server_table.specs.Sound.{IsEstablishedAt}
use Rattle.server_laws.specs.Accepted.{IsOneOf}

-- ---- the rows

-- the rows of an established client: its address, then the networks of its file
abbrev pub rows_with : ℕ → Client → Option Established → List Row
rows_with n x None = []
rows_with n x (Some e) = rows_of (cid n) (networks_of x e.address)

-- those of the client of this number
abbrev pub rows_at : ℕ → Option Client → List Row
rows_at n None = []
rows_at n (Some x) = rows_with n x x.established

-- those of the clients of these numbers, one after the other
abbrev pub rows_for : List Client → List ℕ → List Row
rows_for clients [] = []
rows_for clients (n ∷ numbers) = rows_at n (slice_get clients n) ++ rows_for clients numbers

-- the moment at which a client was established
abbrev pub since_of : Option Established → ℕ
since_of None = 0
since_of (Some e) = e.since

-- that of the client of a number
abbrev pub since_at : Option Client → ℕ
since_at None = 0
since_at (Some x) = since_of x.established

-- each of these clients was established at the moment of the ones behind it, or before
abbrev pub AreInTime : List Client → List ℕ → Type 0
AreInTime clients [] = Unit {0}
AreInTime clients (n ∷ numbers) =
    AllByRecursion (λ m. since_at (slice_get clients n) ≤ since_at (slice_get clients m)) numbers × AreInTime clients numbers

-- no number stands twice
abbrev pub AreDistinct : List ℕ → Type 0
AreDistinct [] = Unit {0}
AreDistinct (n ∷ numbers) = AllByRecursion (λ m. m ≡ n → ⊥) numbers × AreDistinct numbers

-- The rows are those of the clients that are here and established, each once, in the order in which they were established.
pub record AreThoseEstablished (clients : List Client) (moment : ℕ) (rows : List Row) : Type 0 where
  pub order : List ℕ
  pub established : AllByRecursion (IsEstablishedAt clients) order
  pub all : (n : ℕ) → IsEstablishedAt clients n → IsOneOf order n
  pub distinct : AreDistinct order
  pub in_time : AreInTime clients order
  pub until : AllByRecursion (λ n. since_at (slice_get clients n) ≤ moment) order
  pub are_theirs : rows ≡ rows_for clients order

-- all rows but those of these clients, in their order
abbrev pub rows_without : List ℕ → List Row → List Row
rows_without [] rows = rows
rows_without (n ∷ gone) rows = without (rows_without gone rows) (cid n)

-- The rows of a table are those of an earlier one in their order, without those of clients that are gone, and behind them rows of clients that
-- were not established before.
pub record FollowRows (before later : Table) : Type 0 where
  pub gone : List ℕ
  pub added : List Row
  pub are_new : AllByRecursion (λ (row : Row). IsEstablishedAt before.clients row.1.0 → ⊥) added
  pub are_rows : later.routes.rows ≡ rows_without gone before.routes.rows ++ added

-- ---- the hosts

-- each learned host was learned from its owner
abbrev pub AreOfOwners : List Row → List Host → Type 0
AreOfOwners rows hosts = AllByRecursion (λ (host : Host). owner rows host.0 ≡ Some host.1) hosts

-- ---- the clients

-- a file is known
abbrev pub IsKnown : FileState → Type 0
IsKnown (Known ccd) = Unit {0}
IsKnown _ = ⊥

-- some key session has, or had, keys
abbrev pub HaveKeys : List Session → Type 0
HaveKeys sessions = list_any has_keys sessions ≡ true

-- what is sealed under the keys of these sessions carries this peer id
abbrev pub AreNamed : ℕ → List Session → Type 0
AreNamed peer_id sessions =
    (k : ℕ) (s : Session) (keys : Keys) → slice_get sessions k ≡ Some s → keys_of s.stage ≡ Some keys → keys.peer_id ≡ peer_id

-- This end is its server, with the timers of these settings, and its keys name its peer id. A client that asked to be established, or that
-- is, has keys; and one that has keys has its file.
pub record IsClientKept (settings : Settings) (x : Client) : Type 0 where
  pub role : x.session.role ≡ Server
  pub timers : x.session.timers ≡ settings.timers
  pub named : AreNamed x.peer_id x.session.sessions
  pub asked : x.session.asks_push ≡ true → HaveKeys x.session.sessions
  pub established : is_some x.established ≡ true → HaveKeys x.session.sessions
  pub known : HaveKeys x.session.sessions → IsKnown x.file

-- ---- the table

-- The rows are those of the established clients in order of establishing, each learned host is owned by the client that it was learned from,
-- established clients have keys that name them, and no more packets wait for the device than may.
pub record IsWellKept (t : Table) : Type 0 where
  pub moment : t.moment ≤ 2 ^ 52
  pub rows : AreThoseEstablished t.clients t.moment t.routes.rows
  pub hosts : AreOfOwners t.routes.rows t.routes.learned
  pub clients : (n : ℕ) (x : Client) → slice_get t.clients n ≡ Some x → IsClientKept t.settings x
  pub queue : length t.queue ≤ most_queued
