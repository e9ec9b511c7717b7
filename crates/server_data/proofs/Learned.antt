-- Hosts that are learned.
use Rattle.std.proofs.Common.{◌≡◌, ℕ, Bool, true, false, List, slice_get, Option, Some, option_map, refl, sym, ap, subst, ◌∙◌}
use Rattle.std.specs.Prelude.{not, unwrap_or}
use Rattle.std.proofs.lemmas.Bool.{false≢true}
use Rattle.vpn_base.specs.declared.address.Ip4.{Ip4}
use Rattle.vpn_links.specs.Actions.{Action, Contents}
use Rattle.vpn_links.specs.declared.notes.Note.TheVariants.{NotLearned}
use Rattle.client_table.specs.Entries.{Entry}
use Rattle.client_table.specs.Tables.{entries_of}
use Rattle.peer_table.specs.Peer.{Peer}
use Rattle.route_table.specs.Learned as routes
use Rattle.server_table.specs.Courses.{Course, reported}
use Rattle.server_table.specs.InnerPackets.{is_host_of, is_own, learned, learned_unless_lacking, learned_where}
use Rattle.server_table.specs.Lookups.{cid, client_here}
use Rattle.server_table.specs.Table.{Table}
use Rattle.server_state.specs.declared.client.ClientState.{ClientState}
use Rattle.server_state.specs.declared.state.ServerCore.{ServerCore}
use Rattle.server_state.specs.Core.{CoreStands, CourseStands, established_at}
use Rattle.server_state.specs.Places.{IsThere}

-- other routes at the core and at the table
with_routes : {S : Type 0} (means : S → Peer → Type 0) (core : ServerCore S) (t : Table) (q : routes.Contents) (r : routes.Table) → CoreStands means core t → routes.table_of q ≡ r
    → CoreStands means (record core { routes = q }) (record t { routes = r })
with_routes means core t q r h is = record {
  settings = h.settings;
  key = h.key;
  clients = h.clients;
  admitted = h.admitted;
  most = h.most;
  routes = is;
  pool = h.pool;
  queue = h.queue;
  moment = h.moment;
  connections = h.connections;
  bytes_in = h.bytes_in;
  bytes_out = h.bytes_out;
  count_interval = h.count_interval;
  counted_at = h.counted_at;
  is_stopped = h.is_stopped;
  events = h.events;
  last_taken = h.last_taken;
}

-- the value that was looked at is that of the client
pub value_is : {V : Type 0} (o : Option (Entry V)) (e : Entry V) (v : V) → o ≡ Some e → option_map (λ e. e.value) o ≡ Some v → e.value ≡ v
value_is o e v there is = ap (λ o. unwrap_or o v) (sym (ap (λ o. option_map (λ e. e.value) o) there) ∙ is)

module _ {S : Type 0} (means : S → Peer → Type 0) (core : ServerCore S) where
  -- whether a host is to be learned, by what the core keeps of the client
  pub host_is : (t : Table) (m i : ℕ) (host : Ip4) (v : ClientState S) (b : Bool) → IsThere means core t m i
      → option_map (λ e. e.value) (slice_get (entries_of core.clients) i) ≡ Some v → b ≡ is_own host (option_map established_at v.established)
      → not b ≡ is_host_of host (client_here t m)
  host_is t m i host v b there at is =
      ap not
      (is ∙ ap (λ (v : ClientState S). is_own host (option_map established_at v.established)) (sym (value_is (slice_get (entries_of core.clients) i) there.entry v there.entry_there at))
      ∙ ap (is_own host) there.stands.state.established)
      ∙ sym (ap (is_host_of host) there.client_there)

  module _ (before : List Action) (c : Course) (m : ℕ) (host : Ip4) where
    -- no host to be learned
    pub none_learned : (out : Contents) (lacks : Bool) → is_host_of host (client_here c.table m) ≡ false → CourseStands means before core out c
        → CourseStands means before core out (learned lacks m host c)
    unfolding learned
    none_learned out lacks none h = subst (λ b. CourseStands means before core out (learned_where lacks m host c b)) (sym none) h

    -- it was learned
    pub one_learned : (out : Contents) (q : routes.Contents) → is_host_of host (client_here c.table m) ≡ true → routes.table_of q ≡ routes.with_host host (cid m) (routes.table_of core.routes)
        → CourseStands means before core out c → CourseStands means before (record core { routes = q }) out (learned false m host c)
    unfolding learned
    one_learned out q host_is is h =
        subst (λ b. CourseStands means before (record core { routes = q }) out (learned_where false m host c b)) (sym host_is)
        (record {
          table = with_routes means core c.table q (routes.with_host host (cid m) c.table.routes) h.table (is ∙ ap (routes.with_host host (cid m)) h.table.routes);
          outbox = h.outbox;
          in_turn = h.in_turn;
        })

    unknown : (b : Bool) → (b ≡ true → false ≡ true) → not b ≡ true
    unknown true not_so = absurd (false≢true (not_so refl))
    unknown false not_so = refl

    -- there was no memory
    pub lacking : (out new : Contents) (q : routes.Contents) → is_host_of host (client_here c.table m) ≡ true → routes.table_of q ≡ routes.table_of core.routes
        → (routes.is_learned core.routes.learned host ≡ true → false ≡ true) → CourseStands means before core out c
        → ((c : Course) → CourseStands means before (record core { routes = q }) out c → CourseStands means before (record core { routes = q }) new (reported (NotLearned (cid m) host) c))
        → CourseStands means before (record core { routes = q }) new (learned true m host c)
    unfolding learned
    lacking out new q host_is same not_there h tells =
        subst (λ b. CourseStands means before (record core { routes = q }) new (learned_where true m host c b)) (sym host_is)
        (subst (λ b. CourseStands means before (record core { routes = q }) new (learned_unless_lacking m host c b))
        (sym (ap (λ (r : routes.Table). not (routes.is_learned r.learned host)) (sym h.table.routes) ∙ unknown (routes.is_learned core.routes.learned host) not_there))
        (tells c (record { table = with_routes means core c.table q c.table.routes h.table (same ∙ h.table.routes); outbox = h.outbox; in_turn = h.in_turn })))
