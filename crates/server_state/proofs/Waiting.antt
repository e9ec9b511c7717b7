-- The queue to the device.
use Rattle.std.proofs.Common.{◌≡◌, ℕ, true, false, List, [], ◌∷◌, ◌++◌, length, drop, slice_get, Some, None, refl, sym, ap, subst, ◌∙◌}
use Rattle.std.specs.Prelude.{nat_le}
use Rattle.vpn_links.specs.Actions.{Action, Contents, Device, Holds}
use Rattle.vpn_links.specs.declared.notes.Note.TheVariants.{QueueFull}
use Rattle.peer_table.specs.Peer.{Peer}
use Rattle.server_table.specs.Courses.{Course, reported}
use Rattle.server_table.specs.InnerPackets.{dequeued, device_ready, queued, queued_unless_full}
use Rattle.server_table.specs.Lookups.{cid}
use Rattle.server_table.specs.Table.{Table}
use Rattle.server_state.specs.declared.state.ServerCore.{ServerCore}
use Rattle.server_state.specs.Core.{CoreStands, CourseStands}
use Rattle.server_state.proofs.Courses.{did_stands}

-- another queue at the core and at the table
pub with_queue : {S : Type 0} (means : S → Peer → Type 0) (core : ServerCore S) (t : Table) (q r : List (List ℕ)) → CoreStands means core t → q ≡ r
    → CoreStands means (record core { queue = q }) (record t { queue = r })
with_queue means core t q r h is = record {
  settings = h.settings;
  key = h.key;
  clients = h.clients;
  admitted = h.admitted;
  most = h.most;
  routes = h.routes;
  pool = h.pool;
  queue = is;
  moment = h.moment;
  connections = h.connections;
  bytes_in = h.bytes_in;
  bytes_out = h.bytes_out;
  count_interval = h.count_interval;
  counted_at = h.counted_at;
  is_stopped = h.is_stopped;
  events = h.events;
  last_taken = h.last_taken;
}

module _ {S : Type 0} (means : S → Peer → Type 0) (before : List Action) (core : ServerCore S) (c : Course) where
  -- a full queue
  pub full_is : (old new : Contents) (n : ℕ) (inner : List ℕ) → nat_le 64 (length core.queue) ≡ true → CourseStands means before core old c
      → ((c : Course) → CourseStands means before core old c → CourseStands means before core new (reported (QueueFull (cid n)) c))
      → CourseStands means before core new (queued n inner c)
  unfolding queued
  full_is old new n inner full h is =
      subst (λ b. CourseStands means before core new (queued_unless_full n inner c b)) (sym full ∙ ap (λ q. nat_le 64 (length q)) h.table.queue) (is c h)

  -- one with room
  pub put_is : (out : Contents) (n : ℕ) (inner : List ℕ) → nat_le 64 (length core.queue) ≡ false → CourseStands means before core out c
      → CourseStands means before (record core { queue = core.queue ++ inner ∷ [] }) out (queued n inner c)
  unfolding queued
  put_is out n inner room h =
      subst (λ b. CourseStands means before (record core { queue = core.queue ++ inner ∷ [] }) out (queued_unless_full n inner c b))
      (sym room ∙ ap (λ q. nat_le 64 (length q)) h.table.queue)
      (record {
        table = with_queue means core c.table (core.queue ++ inner ∷ []) (c.table.queue ++ inner ∷ []) h.table (ap (λ (q : List (List ℕ)). q ++ inner ∷ []) h.table.queue);
        outbox = h.outbox;
        in_turn = h.in_turn;
      })

  none_step : (out : Contents) (q : List (List ℕ)) → slice_get q 0 ≡ None → CourseStands means before core out c → CourseStands means before core out (dequeued c q)
  none_step out [] none h = h
  none_step out (packet ∷ q) none h = cc

  -- nothing waits
  pub none_is : (out : Contents) → slice_get core.queue 0 ≡ None → CourseStands means before core out c → CourseStands means before core out (device_ready c)
  unfolding device_ready
  none_is out none h = none_step out c.table.queue (ap (λ q. slice_get q 0) (sym h.table.queue) ∙ none) h

  given_step : (old new : Contents) (packet : List ℕ) (q : List (List ℕ)) → c.table.queue ≡ q → slice_get q 0 ≡ Some packet → CourseStands means before core old c
      → Holds new (old.effects ++ Device packet ∷ []) old.staged
      → CourseStands means before (record core { queue = drop 1 core.queue }) new (dequeued c q)
  given_step old new packet [] is there h put = cc
  given_step old new packet (first ∷ q) is there h put =
      let same : first ≡ packet = cc in
      let rest : drop 1 core.queue ≡ q = ap (drop 1) (h.table.queue ∙ is) in
      did_stands means before (record core { queue = drop 1 core.queue }) old new (Device first) (record c { table = record c.table { queue = q } })
      (record { table = with_queue means core c.table (drop 1 core.queue) q h.table rest; outbox = h.outbox; in_turn = h.in_turn })
      (subst (λ p. Holds new (old.effects ++ Device p ∷ []) old.staged) (sym same) put)

  -- the oldest is given to the device
  pub given_is : (old new : Contents) (packet : List ℕ) → slice_get core.queue 0 ≡ Some packet → CourseStands means before core old c
      → Holds new (old.effects ++ Device packet ∷ []) old.staged
      → CourseStands means before (record core { queue = drop 1 core.queue }) new (device_ready c)
  unfolding device_ready
  given_is old new packet there h put =
      given_step old new packet c.table.queue refl (ap (λ q. slice_get q 0) (sym h.table.queue) ∙ there) h put
