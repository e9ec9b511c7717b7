-- What becomes of inner packets leaves all lines.
use Rattle.std.proofs.Common.{◌≡◌, ℕ, not, ◌&&◌, Bool, true, false, List, ◌∷◌, [], length, Option, Some, None, refl, nat_le, Result, Ok, Err}
use Rattle.vpn_base.specs.declared.address.Ip4.{Ip4}
use Rattle.vpn_links.specs.Actions.{Device, Report, Wire}
use Rattle.vpn_links.specs.declared.notes.Note.TheVariants.{KeySpent, NotLearned, QueueFull}
use Rattle.packet_ids.specs.declared.sending.Spent.{Spent}
use Rattle.peer_table.specs.DataPackets as packets
use Rattle.reliable_recv.specs.Receiving.{Arrival}
use Rattle.peer_table.specs.Peer.{Peer}
use Rattle.route_table.specs.Learned.{is_learned}
use Rattle.server_table.specs.Table.{Client}
use Rattle.server_table.specs.Lookups.{cid, client_here}
use Rattle.server_table.specs.Courses.{Course}
use Rattle.server_table.specs.InnerPackets.{dequeued, device_ready, is_host_of, learned, learned_unless_lacking, learned_where, most_queued, queued, queued_unless_full, sealed_as, sealed_for, sealed_to, with_sent}
use Rattle.control_laws.proofs.Kept.{Before, Kept, quiet_kept}
use Rattle.server_table.proofs.Keeps.{at_place, here_at}
use Rattle.control_laws.proofs.Keeps.{changed_kept, did_kept}
use Rattle.control_laws.proofs.Lines.{client_lines, lines_in}
use Rattle.control_laws.proofs.Calls.{sealed_lines}

module _ {brought : ℕ → ℕ → Arrival → Type 0} {base : Before} where
  sealed_as_kept : (n : ℕ) (x : Client) (c : Course) (peer : Peer) (r : Result (List ℕ) Spent) → client_here c.table n ≡ Some x →
      lines_in peer ≡ lines_in x.session → Kept brought base c → Kept brought base (sealed_as n x c peer r)
  sealed_as_kept n x c peer (Ok datagram) here same is =
      quiet_kept (Wire x.address datagram ∷ []) refl
      (changed_kept c.table.clients n (with_sent c.table.moment peer (length datagram))
      (at_place (λ y. lines_in peer ≡ client_lines y) c.table.clients n x (here_at c.table n x here).there same) is)
  sealed_as_kept n x c peer (Err spent) here same is = did_kept (Report (KeySpent (cid n))) c refl is

  sealed_for_kept : (n : ℕ) (inner : List ℕ) (c : Course) (x : Option Client) → client_here c.table n ≡ x → Kept brought base c → Kept brought base (sealed_for n inner c x)
  sealed_for_kept n inner c None here is = is
  sealed_for_kept n inner c (Some x) here is =
      sealed_as_kept n x c (packets.sealed_to inner x.session).peer (packets.sealed_to inner x.session).answer here (sealed_lines inner x.session) is

  pub sealed_kept : (n : ℕ) (inner : List ℕ) (c : Course) → Kept brought base c → Kept brought base (sealed_to n inner c)
  unfolding sealed_to
  sealed_kept n inner c is = sealed_for_kept n inner c (client_here c.table n) refl is

module _ {brought : ℕ → ℕ → Arrival → Type 0} {base : Before} where
  queued_unless_kept : (n : ℕ) (inner : List ℕ) (c : Course) (b : Bool) → Kept brought base c → Kept brought base (queued_unless_full n inner c b)
  queued_unless_kept n inner c true is = did_kept (Report (QueueFull (cid n))) c refl is
  queued_unless_kept n inner c false is = is

  pub queued_kept : (n : ℕ) (inner : List ℕ) (c : Course) → Kept brought base c → Kept brought base (queued n inner c)
  unfolding queued
  queued_kept n inner c is = queued_unless_kept n inner c (nat_le most_queued (length c.table.queue)) is

  dequeued_kept : (c : Course) (queue : List (List ℕ)) → Kept brought base c → Kept brought base (dequeued c queue)
  dequeued_kept c [] is = is
  dequeued_kept c (packet ∷ packets) is = quiet_kept (Device packet ∷ []) refl is

  pub device_ready_kept : (c : Course) → Kept brought base c → Kept brought base (device_ready c)
  unfolding device_ready
  device_ready_kept c is = dequeued_kept c c.table.queue is

  learned_unless_kept : (n : ℕ) (host : Ip4) (c : Course) (b : Bool) → Kept brought base c → Kept brought base (learned_unless_lacking n host c b)
  learned_unless_kept n host c true is = did_kept (Report (NotLearned (cid n) host)) c refl is
  learned_unless_kept n host c false is = is

  learned_where_kept : (lacks : Bool) (n : ℕ) (host : Ip4) (c : Course) (b : Bool) → Kept brought base c → Kept brought base (learned_where lacks n host c b)
  learned_where_kept lacks n host c true is = learned_unless_kept n host c (lacks && not (is_learned c.table.routes.learned host)) is
  learned_where_kept lacks n host c false is = is

  pub learned_kept : (lacks : Bool) (n : ℕ) (host : Ip4) (c : Course) → Kept brought base c → Kept brought base (learned lacks n host c)
  unfolding learned
  learned_kept lacks n host c is = learned_where_kept lacks n host c (is_host_of host (client_here c.table n)) is
