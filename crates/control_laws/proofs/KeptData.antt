-- A data packet that comes leaves all lines.
use Rattle.std.proofs.Common.{◌≡◌, ℕ, ◌&&◌, not, Bool, true, false, List, [], ◌∷◌, length, Option, Some, None, refl, Result, Ok, Err, bytes_eq}
use Rattle.vpn_base.specs.declared.address.Addr.{Addr}
use Rattle.vpn_links.specs.Actions.{Report}
use Rattle.vpn_links.specs.declared.notes.Note.TheVariants as notes
use Rattle.opcode_codec.specs.DataPacket.{DataForm}
use Rattle.ip_packets.specs.Inner.{source}
use Rattle.inner_verdict.specs.declared.Verdict.{Verdict}
use Rattle.inner_verdict.specs.declared.Verdict.TheVariants.{NotIp, TooLong, Multicast, BadSource, ToClient, ToDevice, NoRoute}
use Rattle.inner_verdict.specs.Verdict.{verdict}
use Rattle.reliable_recv.specs.Receiving.{Arrival}
use Rattle.peer_table.specs.declared.outcomes.SessionFault.{SessionFault}
use Rattle.peer_table.specs.declared.outcomes.SessionFault.TheVariants as faults
use Rattle.peer_table.specs.Peer.{Peer}
use Rattle.peer_table.specs.DataPackets as packets
use Rattle.server_table.specs.Table.{Client}
use Rattle.server_table.specs.Lookups.{by_peer_id, cid, client_here, is_address}
use Rattle.server_table.specs.Courses.{Course}
use Rattle.server_table.specs.InnerPackets.{learned}
use Rattle.server_table.specs.DataDatagrams.{FromWire, accepted, carried, carried_as, data_at, data_came, data_for, is_taken, moved, moved_if, opened_as, passed, ping, refused, with_opened}
use Rattle.control_laws.proofs.Calls.{opened_lines}
use Rattle.control_laws.proofs.Lines.{client_lines, lines_in}
use Rattle.control_laws.proofs.Kept.{Before, Kept, quiet_kept}
use Rattle.server_table.proofs.Keeps.{at_place, here_at}
use Rattle.control_laws.proofs.Keeps.{changed_kept, did_kept, same_kept}
use Rattle.control_laws.proofs.KeptPackets.{learned_kept, queued_kept, sealed_kept}

module _ {brought : ℕ → ℕ → Arrival → Type 0} {base : Before} where
  moved_if_kept : (n : ℕ) (from : Addr) (c : Course) (b : Bool) → Kept brought base c → Kept brought base (moved_if n from c b)
  moved_if_kept n from c false is = is
  moved_if_kept n from c true is =
      quiet_kept (Report (notes.Moved (cid n) from) ∷ []) refl (same_kept c.table.clients n (λ x. record x { address = from }) (λ y. refl) is)

  moved_kept : (n : ℕ) (from : Addr) (x : Client) (c : Course) → Kept brought base c → Kept brought base (moved n from x c)
  moved_kept n from x c is = moved_if_kept n from c (not (is_address x.address from) && not (is_taken c.table n from x.session.remote)) is

  passed_kept : (lacks : Bool) (n : ℕ) (inner : List ℕ) (c : Course) (v : Verdict) → Kept brought base c → Kept brought base (passed lacks n inner c v)
  passed_kept lacks n inner c NotIp is = did_kept (Report (notes.NotIp (Some (cid n)))) c refl is
  passed_kept lacks n inner c TooLong is = did_kept (Report (notes.TooLong (Some (cid n)))) c refl is
  passed_kept lacks n inner c Multicast is = did_kept (Report (notes.Multicast (Some (cid n)))) c refl is
  passed_kept lacks n inner c (BadSource owner) is = did_kept (Report (notes.BadSource (cid n) owner)) c refl is
  passed_kept lacks n inner c (ToClient target) is =
      sealed_kept target.0 inner (learned lacks n (source inner) c) (learned_kept lacks n (source inner) c is)
  passed_kept lacks n inner c ToDevice is = queued_kept n inner (learned lacks n (source inner) c) (learned_kept lacks n (source inner) c is)
  passed_kept lacks n inner c NoRoute is = did_kept (Report notes.NoRoute) c refl is

  carried_as_kept : (lacks : Bool) (n : ℕ) (inner : List ℕ) (c : Course) (b : Bool) → Kept brought base c → Kept brought base (carried_as lacks n inner c b)
  carried_as_kept lacks n inner c true is = did_kept (Report (notes.Ping (cid n))) c refl is
  carried_as_kept lacks n inner c false is =
      passed_kept lacks n inner c (verdict c.table.routes.rows c.table.settings.net c.table.settings.between (Some (cid n)) inner) is

  carried_kept : (lacks : Bool) (n : ℕ) (inner : List ℕ) (c : Course) → Kept brought base c → Kept brought base (carried lacks n inner c)
  unfolding carried
  carried_kept lacks n inner c is = carried_as_kept lacks n inner c (bytes_eq inner ping) is

  accepted_kept : (d : FromWire) (n : ℕ) (x : Client) (c : Course) (peer : Peer) → client_here c.table n ≡ Some x → lines_in peer ≡ lines_in x.session →
      Kept brought base c → Kept brought base (accepted d n x c peer)
  accepted_kept d n x c peer here same is =
      changed_kept c.table.clients n (with_opened c.table.moment peer (length d.bytes))
      (at_place (λ y. lines_in peer ≡ client_lines y) c.table.clients n x (here_at c.table n x here).there same) is

  refused_kept : (d : FromWire) (n : ℕ) (x : Client) (c : Course) (fault : SessionFault) → Kept brought base c → Kept brought base (refused d n x c fault)
  refused_kept d n x c (faults.BadKey kid) is = did_kept (Report (notes.BadKey (cid n) kid)) c refl is
  refused_kept d n x c faults.NotSealed is = did_kept (Report (notes.NotSealed (cid n))) c refl is
  refused_kept d n x c (faults.Stale kind id greatest) is = quiet_kept (Report (notes.Stale (cid n) kind id greatest) ∷ []) refl is

  opened_as_kept : (d : FromWire) (n : ℕ) (x : Client) (c : Course) (peer : Peer) (r : Result (List ℕ) SessionFault) → client_here c.table n ≡ Some x →
      lines_in peer ≡ lines_in x.session → Kept brought base c → Kept brought base (opened_as d n x c peer r)
  opened_as_kept d n x c peer (Err fault) here same is = refused_kept d n x c fault is
  opened_as_kept d n x c peer (Ok inner) here same is =
      carried_kept d.lacks n inner (moved n d.from x (accepted d n x c peer)) (moved_kept n d.from x (accepted d n x c peer) (accepted_kept d n x c peer here same is))

  data_for_kept : (d : FromWire) (n : ℕ) (c : Course) (x : Option Client) → client_here c.table n ≡ x → Kept brought base c → Kept brought base (data_for d n c x)
  data_for_kept d n c None here is = is
  data_for_kept d n c (Some x) here is =
      let o = packets.data_came d.bytes (record { 0 = c.table.moment }) x.session in
      opened_as_kept d n x c o.peer o.answer here (opened_lines d.bytes (record { 0 = c.table.moment }) x.session) is

  data_at_kept : (d : FromWire) (peer : ℕ) (c : Course) (n : Option ℕ) → Kept brought base c → Kept brought base (data_at d peer c n)
  data_at_kept d peer c None is = did_kept (Report (notes.UnknownPeer peer)) c refl is
  data_at_kept d peer c (Some n) is = data_for_kept d n c (client_here c.table n) refl is

  pub data_kept : (d : FromWire) (f : DataForm) (c : Course) → Kept brought base c → Kept brought base (data_came d f c)
  unfolding data_came
  data_kept d f c is = data_at_kept d f.peer c (by_peer_id c.table f.peer) is
