-- What establishing a client leaves.
use Rattle.std.proofs.Common.{◌≡◌, ℕ, List, ◌∷◌, ◌++◌, sym, ap, subst, ◌∙◌}
use Rattle.std.proofs.lemmas.List.{append_assoc}
use Rattle.vpn_base.specs.declared.names.Conn.{Conn}
use Rattle.vpn_links.specs.Actions.{Action, Contents, Datagram, Holds}
use Rattle.ccd_files.specs.declared.client_file.Ccd.{Ccd}
use Rattle.route_table.specs.Learned as routes
use Rattle.route_table.specs.Owner.{Row}
use Rattle.route_table.specs.Learned.{rows_of, table_of, with_rows}
use Rattle.peer_table.specs.Peer.{Peer}
use Rattle.server_table.specs.Courses.{Course, with_client}
use Rattle.server_table.specs.Establishing.{Leased, ccd_in, established_at, establishing_lines, host_route, networks_of, reply, with_address}
use Rattle.server_table.specs.Lookups.{cid}
use Rattle.server_table.specs.Table.{Client, Table}
use Rattle.server_state.specs.declared.state.ServerCore.{ServerCore}
use Rattle.server_state.specs.Core.{AreInTurn, CoreStands, CourseStands}

-- the rows of its address and of the networks of its file
with_routes : {S : Type 0} (means : S → Peer → Type 0) (core : ServerCore S) (t : Table) (rows : List Row) (r : routes.Contents) → CoreStands means core t
    → table_of r ≡ with_rows rows (table_of core.routes) → CoreStands means (record core { routes = r }) (record t { routes = with_rows rows t.routes })
with_routes means core t rows r h is = record {
  settings = h.settings;
  key = h.key;
  clients = h.clients;
  admitted = h.admitted;
  most = h.most;
  routes = is ∙ ap (with_rows rows) h.routes;
  pool = h.pool;
  queue = h.queue;
  moment = h.moment;
  connections = h.connections;
  bytes_in = h.bytes_in;
  bytes_out = h.bytes_out;
  count_interval = h.count_interval;
  counted_at = h.counted_at;
  is_stopped = h.is_stopped;
  events = h.events;
  last_taken = h.last_taken;
}

-- two lists of effects more
two_more : (before effects xs ys : List Action) (staged : List Datagram) (old mid new : Contents) → Holds old (before ++ effects) staged
    → Holds mid (old.effects ++ xs) old.staged → Holds new (mid.effects ++ ys) mid.staged → Holds new (before ++ (effects ++ (xs ++ ys))) staged
two_more before effects xs ys staged old mid new was first last = (
  last.0 ∙ ap (λ (l : List Action). l ++ ys) (first.0 ∙ ap (λ (l : List Action). l ++ xs) was.0) ∙ append_assoc (before ++ effects) xs ys
      ∙ append_assoc before effects (xs ++ ys),
  last.1 ∙ first.1 ∙ was.1,
)

pub established_stands : {S : Type 0} (means : S → Peer → Type 0) (before : List Action) (core placed : ServerCore S) (c : Course) (x : Client) (n : ℕ)
    (conn : Conn) (a : Leased) (file : Ccd) (r : routes.Contents) (old mid new : Contents) → CourseStands means before core old c
    → CoreStands means placed (with_client n (with_address a.0 c.table.moment) c.table) → placed.turn ≡ core.turn → placed.mark ≡ core.mark
    → ccd_in x.file ≡ file → table_of r ≡ with_rows (rows_of (cid n) (host_route a.0 ∷ file.iroutes)) (table_of placed.routes)
    → Holds mid (old.effects ++ reply c.table.settings x a conn) old.staged → Holds new (mid.effects ++ establishing_lines n x a.0) mid.staged
    → CourseStands means before (record placed { routes = r }) new (established_at n conn x c a)
established_stands means before core placed c x n conn a file r old mid new h is turn mark same rows written said = record {
  table = with_routes means placed (with_client n (with_address a.0 c.table.moment) c.table) (rows_of (cid n) (networks_of x a.0)) r is
      (rows ∙ ap (λ (f : Ccd). with_rows (rows_of (cid n) (host_route a.0 ∷ f.iroutes)) (table_of placed.routes)) (sym same));
  outbox = two_more before c.effects (reply c.table.settings x a conn) (establishing_lines n x a.0) _ old mid new h.outbox written said;
  in_turn = subst (λ k. AreInTurn k placed.mark c.staged) (sym (ap (λ t. t.0) turn)) (subst (λ k. AreInTurn core.turn.0 k c.staged) (sym mark) h.in_turn);
}
