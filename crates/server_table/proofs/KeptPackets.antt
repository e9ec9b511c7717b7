-- What becomes of inner packets keeps what a course keeps.
use Rattle.std.proofs.Common.{◌≡◌, ℕ, not, ◌&&◌, Bool, true, false, List, ◌∷◌, [], length, Option, Some, None, refl, nat_le, Result, Ok, Err}
use Rattle.vpn_base.specs.declared.address.Ip4.{Ip4}
use Rattle.vpn_links.specs.Actions.{Device, Report, Wire}
use Rattle.vpn_links.specs.declared.notes.Note.TheVariants.{KeySpent, NotLearned, QueueFull}
use Rattle.packet_ids.specs.declared.sending.Spent.{Spent}
use Rattle.peer_table.specs.DataPackets as packets
use Rattle.peer_table.specs.Orderly.{IsOrderly, IsOrderlyFrom}
use Rattle.peer_table.specs.Peer.{Peer}
use Rattle.route_table.specs.Learned.{is_learned}
use Rattle.server_table.specs.Table.{Client, Table}
use Rattle.server_table.specs.Lookups.{cid, client_here}
use Rattle.server_table.specs.Courses.{Course}
use Rattle.server_table.specs.InnerPackets.{dequeued, device_ready, is_host_of, learned, learned_unless_lacking, learned_where, most_queued, queued, queued_unless_full, sealed_as, sealed_for, sealed_to, with_sent}
use Rattle.server_table.specs.internal.CallsKeepOrder.{CallsKeepOrder}
use Rattle.server_table.proofs.Kept.{Kept, done_kept, orderly_from}
use Rattle.server_table.proofs.Keeps.{Keeps, at_place, did_kept, here_at, keeps_kept}

module _ (calls : CallsKeepOrder) {a : Table} {k : ℕ} where
  sealed_as_kept : (n : ℕ) (x : Client) (c : Course) (peer : Peer) (r : Result (List ℕ) Spent) → client_here c.table n ≡ Some x →
      (IsOrderly x.session.sessions → IsOrderlyFrom x.session.remote peer) → Kept a k c → Kept a k (sealed_as n x c peer r)
  sealed_as_kept n x c peer (Ok datagram) here orderly is =
      done_kept (Wire x.address datagram ∷ []) refl
      (keeps_kept n (with_sent c.table.moment peer (length datagram))
      (at_place (λ y. Keeps y (with_sent c.table.moment peer (length datagram) y)) c.table.clients n x (here_at c.table n x here).there
      (record { peer_id = refl; here = refl; address = refl; established = λ e. e; session = orderly })) is)
  sealed_as_kept n x c peer (Err spent) here orderly is = did_kept (Report (KeySpent (cid n))) c refl is

  sealed_for_kept : (n : ℕ) (inner : List ℕ) (c : Course) (x : Option Client) → client_here c.table n ≡ x → Kept a k c → Kept a k (sealed_for n inner c x)
  sealed_for_kept n inner c None here is = is
  sealed_for_kept n inner c (Some x) here is =
      sealed_as_kept n x c (packets.sealed_to inner x.session).peer (packets.sealed_to inner x.session).answer here
      (λ o. calls.seals x.session.remote inner x.session (orderly_from x.session o)) is

  pub sealed_kept : (n : ℕ) (inner : List ℕ) (c : Course) → Kept a k c → Kept a k (sealed_to n inner c)
  unfolding sealed_to
  sealed_kept n inner c is = sealed_for_kept n inner c (client_here c.table n) refl is

module _ {a : Table} {k : ℕ} where
  queued_unless_kept : (n : ℕ) (inner : List ℕ) (c : Course) (b : Bool) → Kept a k c → Kept a k (queued_unless_full n inner c b)
  queued_unless_kept n inner c true is = did_kept (Report (QueueFull (cid n))) c refl is
  queued_unless_kept n inner c false is = is

  pub queued_kept : (n : ℕ) (inner : List ℕ) (c : Course) → Kept a k c → Kept a k (queued n inner c)
  unfolding queued
  queued_kept n inner c is = queued_unless_kept n inner c (nat_le most_queued (length c.table.queue)) is

  dequeued_kept : (c : Course) (queue : List (List ℕ)) → Kept a k c → Kept a k (dequeued c queue)
  dequeued_kept c [] is = is
  dequeued_kept c (packet ∷ packets) is = done_kept (Device packet ∷ []) refl is

  pub device_ready_kept : (c : Course) → Kept a k c → Kept a k (device_ready c)
  unfolding device_ready
  device_ready_kept c is = dequeued_kept c c.table.queue is

  learned_unless_kept : (n : ℕ) (host : Ip4) (c : Course) (b : Bool) → Kept a k c → Kept a k (learned_unless_lacking n host c b)
  learned_unless_kept n host c true is = did_kept (Report (NotLearned (cid n) host)) c refl is
  learned_unless_kept n host c false is = is

  learned_where_kept : (lacks : Bool) (n : ℕ) (host : Ip4) (c : Course) (b : Bool) → Kept a k c → Kept a k (learned_where lacks n host c b)
  learned_where_kept lacks n host c true is = learned_unless_kept n host c (lacks && not (is_learned c.table.routes.learned host)) is
  learned_where_kept lacks n host c false is = is

  pub learned_kept : (lacks : Bool) (n : ℕ) (host : Ip4) (c : Course) → Kept a k c → Kept a k (learned lacks n host c)
  unfolding learned
  learned_kept lacks n host c is = learned_where_kept lacks n host c (is_host_of host (client_here c.table n)) is
