-- For which tables a core stands, and how far a step of it has come.
use Rattle.std.specs.Prelude.{◌≡◌, ℕ, ◌+◌, ◌-◌, ◌*◌, ◌^◌, ◌≤◌, ◌<◌, List, ◌∷◌, ◌++◌, length, map, filter_map, option_map, Option, Some, None}
use Rattle.std.specs.List.{AllByRecursion}
use Rattle.vpn_base.specs.declared.address.Ip4.{Ip4}
use Rattle.vpn_base.specs.declared.names.Moment.{Moment}
use Rattle.vpn_base.specs.declared.names.Timers.{Timers}
use Rattle.vpn_links.specs.Actions.{Action, Contents, Holds}
use Rattle.address_pool.specs.Holds as pool
use Rattle.route_table.specs.Learned.{table_of}
use Rattle.client_table.specs.Entries.{Entry}
use Rattle.client_table.specs.Tables.{admitted_by, entries_of, most_of}
use Rattle.peer_table.specs.Peer.{Peer}
use Rattle.server_table.specs.Courses.{Course, Staged}
use Rattle.server_table.specs.Engine.{default_name}
use Rattle.server_table.specs.Establishing.{first_address, last_address}
use Rattle.server_table.specs.Lookups.{address_in}
use Rattle.server_table.specs.Table.{Client, Established, FileState, Table, Unasked, Awaited, Known}
use Rattle.server_state.specs.declared.client.ClientFile.{ClientFile}
use Rattle.server_state.specs.declared.client.ClientFile.TheVariants as files
use Rattle.server_state.specs.declared.client.ClientState.{ClientState}
use Rattle.server_state.specs.declared.state.ServerCore.{ServerCore}
use Rattle.server_state.specs.Standing.{StandFrom}

-- ---- clients

-- what is kept of the file of a client with this name, once its name is known
abbrev pub FileStands : Option (List ℕ) → ClientFile → FileState → Type 0
FileStands name files.Unasked Unasked = Unit {0}
FileStands name files.AwaitsOwn (Awaited asked) = name ≡ Some asked
FileStands name files.AwaitsDefault (Awaited asked) = asked ≡ default_name
FileStands name (files.Known ccd) (Known known) = ccd ≡ known
FileStands name file state = ⊥

-- an address in the tunnel with the moment of the establishing
abbrev pub established_at : Ip4 × Moment → Established
established_at e = record { address = e.0; since = e.1.0 }

-- the name under which a client is established
abbrev pub name_once : Option (List ℕ) → Option Established → Option (List ℕ)
name_once name None = None
name_once name (Some e) = name

-- what the core keeps of a client, beside what it is found by and its file, stands for it
pub record StateStands {S : Type 0} (means : S → Peer → Type 0) (v : ClientState S) (x : Client) : Type 0 where
  pub session : means v.session x.session
  pub established : option_map established_at v.established ≡ x.established
  pub heard : v.heard.0 ≡ x.heard
  pub sealed_at : v.sealed_at.0 ≡ x.sealed_at
  pub bytes_in : v.bytes_in ≡ x.bytes_in
  pub bytes_out : v.bytes_out ≡ x.bytes_out

-- all that the core keeps of a client stands for the one of this number
pub record IsOfClient {S : Type 0} (means : S → Peer → Type 0) (e : Entry (ClientState S)) (n : ℕ) (x : Client) : Type 0 where
  pub number : e.key.number.0 ≡ n
  pub peer_id : e.key.peer_id ≡ x.peer_id
  pub address : e.key.address ≡ x.address
  pub remote : x.session.remote ≡ Some e.key.sid
  pub name : e.key.name ≡ name_once x.session.name x.established
  pub file : FileStands x.session.name e.value.file x.file
  pub state : StateStands means e.value x

-- ---- the core

-- addresses that clients have, behind one that is held for a client that may be established
abbrev pub with_held : Option Ip4 → List Ip4 → List Ip4
with_held None taken = taken
with_held (Some a) taken = a ∷ taken

-- a core stands for a table
pub record CoreStands {S : Type 0} (means : S → Peer → Type 0) (core : ServerCore S) (t : Table) : Type 0 where
  pub settings : core.settings ≡ t.settings
  pub key : core.key.0 ≡ t.key
  pub clients : StandFrom (IsOfClient means) (entries_of core.clients) 0 t.clients
  pub admitted : admitted_by core.clients ≡ length t.clients
  pub most : most_of core.clients ≡ t.settings.max_clients
  pub routes : table_of core.routes ≡ t.routes
  pub pool : pool.Holds core.pool (record { first = first_address t.settings; last = last_address t.settings; taken = with_held core.held (filter_map address_in t.clients) })
  pub queue : core.queue ≡ t.queue
  pub moment : core.moment.0 ≡ t.moment
  pub connections : core.connections ≡ t.connections
  pub bytes_in : core.bytes_in ≡ t.bytes_in
  pub bytes_out : core.bytes_out ≡ t.bytes_out
  pub count_interval : core.count_interval ≡ t.count_interval
  pub counted_at : core.counted_at.0 ≡ t.counted_at
  pub is_stopped : core.is_stopped ≡ t.is_stopped
  pub events : core.events ≡ t.events
  pub last_taken : core.last_taken ≡ t.last_taken

-- Whose turn it is: control datagrams of other clients stand before a mark, and their numbers are lower; those behind it are of the client whose
-- turn it is.
pub record AreInTurn (turn mark : ℕ) (staged : List Staged) : Type 0 where
  pub earlier : List Staged
  pub own : List Staged
  pub all : staged ≡ earlier ++ own
  pub marked : length earlier ≡ mark
  pub before : AllByRecursion (λ (s : Staged). s.number < turn) earlier
  pub behind : AllByRecursion (λ (s : Staged). s.number ≡ turn) own

-- A core and the outbox of its step stand for how far a step has come: behind what was there before stand its effects, and its control
-- datagrams are staged.
pub record CourseStands {S : Type 0} (means : S → Peer → Type 0) (before : List Action) (core : ServerCore S) (out : Contents) (c : Course) : Type 0 where
  pub table : CoreStands means core c.table
  pub outbox : Holds out (before ++ c.effects) (map (λ (s : Staged). s.datagram) c.staged)
  pub in_turn : AreInTurn core.turn.0 core.mark c.staged

-- ---- what holds of every core

-- a client's session goes on, has at most so many key sessions, and was told no moment behind this one
pub record GoesOn {S : Type 0} (goes_on : S → Type 0) (count since : S → ℕ) (most moment : ℕ) (e : Entry (ClientState S)) : Type 0 where
  pub session : goes_on e.value.session
  pub few : count e.value.session ≤ most
  pub past : since e.value.session ≤ moment

-- the timers are those that a session may have
pub record AreTimersFor (timers : Timers) : Type 0 where
  pub window : 1 ≤ timers.win
  pub some_timeout : 1 ≤ timers.timeout
  pub short_timeout : timers.timeout ≤ 60

-- Every session goes on. An event begins at most one key session of a client, and two where it is admitted; it opens at most one
-- connection of each client.
pub record IsSound {S : Type 0} (goes_on : S → Type 0) (count since : S → ℕ) (core : ServerCore S) : Type 0 where
  pub sessions : AllByRecursion (GoesOn goes_on count since (core.events + 1) core.moment.0) (entries_of core.clients)
  pub most : most_of core.clients ≤ 4096
  pub admitted : admitted_by core.clients ≤ core.events
  pub connections : core.connections ≤ 2 ^ 13 * core.events
  pub timers : AreTimersFor core.settings.timers
  pub no_counts : core.count_interval ≡ 0
  pub late : core.moment.0 ≤ 2 ^ 52

-- no session was told a moment behind this one
abbrev pub NoneIsLater : {S : Type 0} → (S → ℕ) → ℕ → ServerCore S → Type 0
NoneIsLater since moment core = AllByRecursion (λ (e : Entry (ClientState _)). since e.value.session ≤ moment) (entries_of core.clients)

-- no session was told a later moment meanwhile
abbrev pub StaysTold : {S : Type 0} → (S → ℕ) → ServerCore S → ServerCore S → Type 0
StaysTold since before after = (moment : ℕ) → NoneIsLater since moment before → NoneIsLater since moment after

-- what holds of every core, before anything is done for an event that counts already
abbrev pub IsSoundAhead : {S : Type 0} → (S → Type 0) → (S → ℕ) → (S → ℕ) → ServerCore S → Type 0
IsSoundAhead goes_on count since core = IsSound goes_on count since (record core { events = core.events - 1 })
