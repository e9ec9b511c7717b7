-- A data packet that comes keeps what a course keeps.
use Rattle.std.proofs.Common.{◌≡◌, ℕ, ◌==◌, ◌&&◌, not, Bool, true, false, List, [], ◌∷◌, length, Option, Some, None, refl, sym, ap, ◌∙◌, Result, Ok, Err, bytes_eq}
use Rattle.std.specs.Prelude.{slice_get}
use Rattle.std.proofs.lemmas.Bool.{and_parts, eqb-true, false≢true, not-false, not-true}
use Rattle.vpn_base.specs.declared.address.Addr.{Addr}
use Rattle.vpn_base.specs.declared.names.Sid.{Sid}
use Rattle.vpn_links.specs.Actions.{Report}
use Rattle.vpn_links.specs.declared.notes.Note.TheVariants as notes
use Rattle.opcode_codec.specs.DataPacket.{DataForm}
use Rattle.ip_packets.specs.Inner.{source}
use Rattle.inner_verdict.specs.declared.Verdict.{Verdict}
use Rattle.inner_verdict.specs.declared.Verdict.TheVariants.{NotIp, TooLong, Multicast, BadSource, ToClient, ToDevice, NoRoute}
use Rattle.inner_verdict.specs.Verdict.{verdict}
use Rattle.peer_table.specs.declared.outcomes.SessionFault.{SessionFault}
use Rattle.peer_table.specs.declared.outcomes.SessionFault.TheVariants as faults
use Rattle.peer_table.specs.Orderly.{IsOrderly, IsOrderlyFrom}
use Rattle.peer_table.specs.Peer.{Peer}
use Rattle.peer_table.specs.DataPackets as packets
use Rattle.peer_table.specs.Places.{changed_at, first_place}
use Rattle.server_table.specs.Table.{Client, Table}
use Rattle.server_table.specs.Lookups.{by_peer_id, by_session, cid, client_here, has_session, is_address}
use Rattle.server_table.specs.Courses.{Course}
use Rattle.server_table.specs.InnerPackets.{learned}
use Rattle.server_table.specs.DataDatagrams.{FromWire, accepted, carried, carried_as, data_at, data_came, data_for, is_other, is_taken, moved, moved_if, opened_as, passed, ping, refused, with_opened}
use Rattle.server_table.specs.Sound.{AtMostOne, IsSound}
use Rattle.server_table.proofs.Places.{first_is, get_changed, none_passes}
use Rattle.server_table.proofs.Sessions.{has_session_of, joined, session_is}
use Rattle.server_table.specs.internal.CallsKeepOrder.{CallsKeepOrder}
use Rattle.server_table.proofs.Kept.{Kept, altered, done_kept, orderly_from}
use Rattle.server_table.proofs.Keeps.{Keeps, all_mapped, at_place, did_kept, established_changed, here_at, keeps_kept}
use Rattle.server_table.proofs.KeptPackets.{learned_kept, queued_kept, sealed_kept}
use Rattle.server_table.proofs.Settled.{Settled, kept_settled, refusal_settled}

-- ---- moving

-- where nobody else has a session id at an address, who has it there is this client
alone_by : (t : Table) (n : ℕ) (from : Addr) (known : Sid) (o : Option ℕ) → first_place (has_session from known) t.clients ≡ o → is_other n o ≡ false →
    AtMostOne (has_session from known) t.clients → (i : ℕ) (z : Client) → slice_get t.clients i ≡ Some z → has_session from known z ≡ true → i ≡ n
alone_by t n from known None first other one i z there passes =
    absurd (false≢true (sym (none_passes (has_session from known) t.clients first i z there) ∙ passes))
alone_by t n from known (Some m) first other one i z there passes =
    let f = first_is (has_session from known) t.clients m first in
    one i m z f.item there f.there passes f.passed ∙ eqb-true m n (not-false (m == n) other)

alone_at : (t : Table) (n : ℕ) (from : Addr) (known : Sid) → is_taken t n from (Some known) ≡ false →
    AtMostOne (has_session from known) t.clients → (i : ℕ) (z : Client) → slice_get t.clients i ≡ Some z → has_session from known z ≡ true → i ≡ n
unfolding by_session
alone_at t n from known other one = alone_by t n from known (first_place (has_session from known) t.clients) refl other one

-- the client of a number, with a session id that nobody else has at the address to which it moves, is alone there
moved_alone : (t : Table) (n : ℕ) (from : Addr) (remote : Option Sid) → is_taken t n from remote ≡ false → ((from : Addr) (sid : Sid) → AtMostOne (has_session from sid) t.clients) →
    (at : Addr) (sid : Sid) (y : Client) → y.session.remote ≡ remote → has_session at sid (record y { address = from }) ≡ true →
    (i : ℕ) (z : Client) → slice_get t.clients i ≡ Some z → has_session at sid z ≡ true → i ≡ n
moved_alone t n from remote free one at sid y same passes i z there others =
    let p = session_is at sid (record y { address = from }) passes in
    let q = session_is at sid z others in
    let known : is_taken t n from (Some p.known) ≡ false = ap (is_taken t n from) (sym p.remote ∙ same) ∙ free in
    alone_at t n from p.known known (one from p.known) i z there
    (has_session_of from p.known z (record {
      here = q.here;
      ip = q.ip ∙ sym p.ip;
      port = q.port ∙ sym p.port;
      known = q.known;
      remote = q.remote;
      same = q.same ∙ sym p.same;
    }))

module _ {a : Table} {k : ℕ} where
  moved_if_kept : (n : ℕ) (from : Addr) (remote : Option Sid) (c : Course) (b : Bool) → (b ≡ true → is_taken c.table n from remote ≡ false) →
      (IsSound a → (y : Client) → slice_get c.table.clients n ≡ Some y → y.session.remote ≡ remote) → Kept a k c → Kept a k (moved_if n from c b)
  moved_if_kept n from remote c false free same is = is
  moved_if_kept n from remote c true free same is =
      let f : Client → Client = λ x. record x { address = from } in
      done_kept (Report (notes.Moved (cid n) from) ∷ []) refl
      (altered c.table.routes.rows n f
      (λ y there. record { peer_id = refl; here = λ e. e; session = λ o. o; remote = λ o sid e. e })
      (λ sound s at sid. joined (has_session at sid) n f c.table.clients
      (λ y there. moved_alone c.table n from remote (free refl) s.sessions at sid y (same sound y there)) (s.sessions at sid))
      (λ s. all_mapped c.table.routes.rows (λ row at. established_changed n f c.table.clients (λ y there here est. (here, est)) row.1.0 at) s.owned)
      is)

  moved_kept : (n : ℕ) (from : Addr) (x : Client) (c : Course) →
      (IsSound a → (y : Client) → slice_get c.table.clients n ≡ Some y → y.session.remote ≡ x.session.remote) → Kept a k c → Kept a k (moved n from x c)
  moved_kept n from x c same is =
      moved_if_kept n from x.session.remote c (not (is_address x.address from) && not (is_taken c.table n from x.session.remote))
      (λ e. not-true (is_taken c.table n from x.session.remote) (and_parts (not (is_address x.address from)) (not (is_taken c.table n from x.session.remote)) e).1)
      same is

module _ (calls : CallsKeepOrder) {a : Table} {k : ℕ} where
  -- ---- what it carries

  passed_kept : (lacks : Bool) (n : ℕ) (inner : List ℕ) (c : Course) (v : Verdict) → Kept a k c → Kept a k (passed lacks n inner c v)
  passed_kept lacks n inner c NotIp is = did_kept (Report (notes.NotIp (Some (cid n)))) c refl is
  passed_kept lacks n inner c TooLong is = did_kept (Report (notes.TooLong (Some (cid n)))) c refl is
  passed_kept lacks n inner c Multicast is = did_kept (Report (notes.Multicast (Some (cid n)))) c refl is
  passed_kept lacks n inner c (BadSource owner) is = did_kept (Report (notes.BadSource (cid n) owner)) c refl is
  passed_kept lacks n inner c (ToClient target) is =
      sealed_kept calls target.0 inner (learned lacks n (source inner) c) (learned_kept lacks n (source inner) c is)
  passed_kept lacks n inner c ToDevice is = queued_kept n inner (learned lacks n (source inner) c) (learned_kept lacks n (source inner) c is)
  passed_kept lacks n inner c NoRoute is = did_kept (Report notes.NoRoute) c refl is

  carried_as_kept : (lacks : Bool) (n : ℕ) (inner : List ℕ) (c : Course) (b : Bool) → Kept a k c → Kept a k (carried_as lacks n inner c b)
  carried_as_kept lacks n inner c true is = did_kept (Report (notes.Ping (cid n))) c refl is
  carried_as_kept lacks n inner c false is =
      passed_kept lacks n inner c (verdict c.table.routes.rows c.table.settings.net c.table.settings.between (Some (cid n)) inner) is

  carried_kept : (lacks : Bool) (n : ℕ) (inner : List ℕ) (c : Course) → Kept a k c → Kept a k (carried lacks n inner c)
  unfolding carried
  carried_kept lacks n inner c is = carried_as_kept lacks n inner c (bytes_eq inner ping) is

  -- ---- whether it opens

  accepted_kept : (d : FromWire) (n : ℕ) (x : Client) (c : Course) (peer : Peer) → client_here c.table n ≡ Some x →
      (IsOrderly x.session.sessions → IsOrderlyFrom x.session.remote peer) → Kept a k c → Kept a k (accepted d n x c peer)
  accepted_kept d n x c peer here orderly is =
      let f : Client → Client = with_opened c.table.moment peer (length d.bytes) in
      keeps_kept n f
      (at_place (λ y. Keeps y (f y)) c.table.clients n x (here_at c.table n x here).there
      (record { peer_id = refl; here = refl; address = refl; established = λ e. e; session = orderly })) is

  opened_ok_kept : (d : FromWire) (n : ℕ) (x : Client) (c : Course) (peer : Peer) (inner : List ℕ) → client_here c.table n ≡ Some x →
      (IsOrderly x.session.sessions → IsOrderlyFrom x.session.remote peer) → Kept a k c → Kept a k (opened_as d n x c peer (Ok inner))
  opened_ok_kept d n x c peer inner here orderly is =
      let at = here_at c.table n x here in
      let f : Client → Client = with_opened c.table.moment peer (length d.bytes) in
      carried_kept d.lacks n inner (moved n d.from x (accepted d n x c peer))
      (moved_kept n d.from x (accepted d n x c peer)
      (λ s. at_place (λ y. y.session.remote ≡ x.session.remote) (changed_at n f c.table.clients) n (f x) (get_changed n f c.table.clients x at.there)
      (orderly ((is.sound s).orderly n x at.there)).is_remote)
      (accepted_kept d n x c peer here orderly is))

  refused_settled : (d : FromWire) (n : ℕ) (x : Client) (c : Course) (fault : SessionFault) → c.table ≡ a → Kept a k c → Settled a k (refused d n x c fault)
  refused_settled d n x c (faults.BadKey kid) same is = kept_settled (refused d n x c (faults.BadKey kid)) (did_kept (Report (notes.BadKey (cid n) kid)) c refl is)
  refused_settled d n x c faults.NotSealed same is = refusal_settled (notes.NotSealed (cid n)) c same is
  refused_settled d n x c (faults.Stale kind id greatest) same is =
      kept_settled (refused d n x c (faults.Stale kind id greatest)) (done_kept (Report (notes.Stale (cid n) kind id greatest) ∷ []) refl is)

  opened_as_settled : (d : FromWire) (n : ℕ) (x : Client) (c : Course) (peer : Peer) (r : Result (List ℕ) SessionFault) → client_here c.table n ≡ Some x →
      (IsOrderly x.session.sessions → IsOrderlyFrom x.session.remote peer) → c.table ≡ a → Kept a k c → Settled a k (opened_as d n x c peer r)
  opened_as_settled d n x c peer (Err fault) here orderly same is = refused_settled d n x c fault same is
  opened_as_settled d n x c peer (Ok inner) here orderly same is =
      kept_settled (opened_as d n x c peer (Ok inner)) (opened_ok_kept d n x c peer inner here orderly is)

  data_for_settled : (d : FromWire) (n : ℕ) (c : Course) (x : Option Client) → client_here c.table n ≡ x → c.table ≡ a → Kept a k c → Settled a k (data_for d n c x)
  data_for_settled d n c None here same is = kept_settled c is
  data_for_settled d n c (Some x) here same is =
      opened_as_settled d n x c (packets.data_came d.bytes (record { 0 = c.table.moment }) x.session).peer
      (packets.data_came d.bytes (record { 0 = c.table.moment }) x.session).answer here
      (λ o. calls.opens x.session.remote d.bytes (record { 0 = c.table.moment }) x.session (orderly_from x.session o)) same is

  data_at_settled : (d : FromWire) (peer : ℕ) (c : Course) (n : Option ℕ) → c.table ≡ a → Kept a k c → Settled a k (data_at d peer c n)
  data_at_settled d peer c None same is = refusal_settled (notes.UnknownPeer peer) c same is
  data_at_settled d peer c (Some n) same is = data_for_settled d n c (client_here c.table n) refl same is

  pub data_settled : (d : FromWire) (f : DataForm) (c : Course) → c.table ≡ a → Kept a k c → Settled a k (data_came d f c)
  unfolding data_came
  data_settled d f c same is = data_at_settled d f.peer c (by_peer_id c.table f.peer) same is
