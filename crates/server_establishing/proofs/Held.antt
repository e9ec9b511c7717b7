-- An address that is held for a client.
use Rattle.std.proofs.Common.{◌≡◌, ℕ, Bool, true, false, List, [], ◌∷◌, ◌++◌, Option, Some, None, refl, sym, ap, subst, ◌∙◌}
use Rattle.std.specs.Prelude.{filter_map}
use Rattle.vpn_base.specs.declared.address.Ip4.{Ip4}
use Rattle.vpn_base.specs.declared.names.Cause.{Cause}
use Rattle.vpn_base.specs.declared.names.Cause.TheVariants.{Replaced}
use Rattle.address_pool.specs.declared.Pool.{Pool}
use Rattle.address_pool.specs.Holds.{Holds}
use Rattle.address_pool.specs.LeastFree.{Takings, least_free, with_taken}
use Rattle.ovpn_config.specs.declared.settings.Settings.{Settings}
use Rattle.route_table.specs.Learned as routes
use Rattle.route_table.specs.Learned.{table_of}
use Rattle.peer_table.specs.Peer.{Peer}
use Rattle.server_table.specs.Courses.{Course}
use Rattle.server_table.specs.Endings.{ended, ended_as}
use Rattle.server_table.specs.Establishing.{address_by, first_address, last_address, leased, replaced, replaced_unless}
use Rattle.server_table.specs.Lookups.{address_in, cid, client_here, established_named, taken_addresses}
use Rattle.server_table.specs.Table.{Client, Table}
use Rattle.server_state.specs.declared.state.ServerCore.{ServerCore}
use Rattle.server_state.specs.Core.{CoreStands, with_held}
use Rattle.server_establishing.specs.internal.Taking.{GivesUp, Takes}

-- the takings of a pool for a table
abbrev pub takings : Table → List Ip4 → Takings
takings t taken = record { first = first_address t.settings; last = last_address t.settings; taken = taken }

ended_keeps : (m : ℕ) (cause : Cause) (c : Course) (o : Option Client) → (ended_as m cause c o).table.settings ≡ c.table.settings
ended_keeps m cause c None = refl
ended_keeps m cause c (Some x) = refl

replaced_keeps : (n : ℕ) (c : Course) (o : Option ℕ) → (replaced n c o).table.settings ≡ c.table.settings
unfolding ended
replaced_keeps n c None = refl
replaced_keeps n c (Some m) = ended_keeps m (Replaced (cid n)) c (client_here c.table m)

-- the settings stay
pub settings_same : (n : ℕ) (name : List ℕ) (c : Course) (b : Bool) → (replaced_unless n name c b).table.settings ≡ c.table.settings
settings_same n name c true = refl
settings_same n name c false = replaced_keeps n c (established_named c.table name)

module _ {S : Type 0} (means : S → Peer → Type 0) (core : ServerCore S) where
  pub with_pool : (t : Table) (p : Pool) (o : Option Ip4) → CoreStands means core t → Holds p (takings t (with_held o (filter_map address_in t.clients)))
      → CoreStands means (record core { pool = p; held = o }) t
  with_pool t p o h holds = record {
    settings = h.settings;
    key = h.key;
    clients = h.clients;
    admitted = h.admitted;
    most = h.most;
    routes = h.routes;
    pool = holds;
    queue = h.queue;
    moment = h.moment;
    connections = h.connections;
    bytes_in = h.bytes_in;
    bytes_out = h.bytes_out;
    count_interval = h.count_interval;
    counted_at = h.counted_at;
    is_stopped = h.is_stopped;
    events = h.events;
    last_taken = h.last_taken;
  }

  -- what the pool holds where no address is held
  pub all_taken : (t : Table) → CoreStands means core t → core.held ≡ None → Holds core.pool (takings t (filter_map address_in t.clients))
  all_taken t h none = subst (λ o. Holds core.pool (takings t (with_held o (filter_map address_in t.clients)))) none h.pool

  holds_more : (t : Table) (p : Pool) (o : Option Ip4) → Holds core.pool (takings t (filter_map address_in t.clients)) → Takes core.pool p o
      → Holds p (takings t (with_held o (filter_map address_in t.clients)))
  holds_more t p None was more = more (takings t (filter_map address_in t.clients)) was
  holds_more t p (Some a) was more = more (takings t (filter_map address_in t.clients)) was

  -- an address is held, or none
  pub held_stands : (t : Table) (p : Pool) (o : Option Ip4) → CoreStands means core t → core.held ≡ None → Takes core.pool p o
      → CoreStands means (record core { pool = p; held = o }) t
  held_stands t p o h none more = with_pool t p o h (holds_more t p o (all_taken t h none) more)

  -- nothing was taken
  pub none_stands : (t : Table) (p : Pool) → CoreStands means core t → core.held ≡ None → ((t : Takings) → Holds core.pool t → Holds p t)
      → CoreStands means (record core { pool = p }) t
  none_stands t p h none same =
      subst (λ o. CoreStands means (record core { pool = p; held = o }) t) (sym none)
      (with_pool t p None h (same (takings t (filter_map address_in t.clients)) (all_taken t h none)))

  -- the address is given back
  pub back_stands : (t : Table) (p : Pool) (a : Ip4) → CoreStands means core t → core.held ≡ Some a
      → ((t : Takings) (before after : List Ip4) → Holds core.pool t → t.taken ≡ before ++ a ∷ after → Holds p (with_taken t (before ++ after)))
      → CoreStands means (record core { pool = p; held = None }) t
  back_stands t p a h is back =
      with_pool t p None h
      (back (takings t (a ∷ filter_map address_in t.clients)) [] (filter_map address_in t.clients)
      (subst (λ o. Holds core.pool (takings t (with_held o (filter_map address_in t.clients)))) is h.pool) refl)

  -- the least address that is free when whoever is replaced has ended
  pub least_is : (n : ℕ) (name : List ℕ) (c : Course) (o given : Option Ip4) → CoreStands means core c.table → core.held ≡ None
      → ((t : Takings) (left : List Ip4) → Holds core.pool t → GivesUp given t.taken left → o ≡ least_free t.first t.last left)
      → GivesUp given (taken_addresses c.table) (taken_addresses (replaced_unless n name c c.table.settings.duplicate).table)
      → leased c.table.settings o ≡ address_by (replaced_unless n name c c.table.settings.duplicate).table None
  unfolding taken_addresses
  least_is n name c o given h none least gives =
      let behind = (replaced_unless n name c c.table.settings.duplicate).table in
      let left = filter_map address_in behind.clients in
      ap (leased c.table.settings) (least (takings c.table (filter_map address_in c.table.clients)) left (all_taken c.table h none) gives)
      ∙ ap (λ (s : Settings). leased s (least_free (first_address s) (last_address s) left)) (sym (settings_same n name c c.table.settings.duplicate))

  -- the route table has room for more rows
  pub with_room : (t : Table) (r : routes.Contents) → CoreStands means core t → table_of r ≡ table_of core.routes → CoreStands means (record core { routes = r }) t
  with_room t r h same = record {
    settings = h.settings;
    key = h.key;
    clients = h.clients;
    admitted = h.admitted;
    most = h.most;
    routes = same ∙ h.routes;
    pool = h.pool;
    queue = h.queue;
    moment = h.moment;
    connections = h.connections;
    bytes_in = h.bytes_in;
    bytes_out = h.bytes_out;
    count_interval = h.count_interval;
    counted_at = h.counted_at;
    is_stopped = h.is_stopped;
    events = h.events;
    last_taken = h.last_taken;
  }
