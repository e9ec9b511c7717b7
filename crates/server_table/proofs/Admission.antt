-- A client that is admitted: it has a peer id of its own, and stands behind all others.
use Rattle.std.proofs.Common.{◌≡◌, ◌≤◌, ℕ, zero, suc, ◌+◌, ◌==◌, Bool, true, false, List, [], ◌∷◌, ◌++◌, length, Option, Some, None, refl, sym, ap, ◌∙◌, subst, inl, inr, arith, length-append, Result, Ok, Err}
use Rattle.std.specs.Prelude.{◌⊎◌, slice_get, if◌then◌else◌}
use Rattle.std.specs.List.{list_any}
use Rattle.std.proofs.lemmas.Bool.{and_right, eqb-true, false≢true, ne_eqb, or_parts}
use Rattle.vpn_base.specs.declared.address.Addr.{Addr}
use Rattle.vpn_base.specs.declared.names.Draw.{Draw}
use Rattle.vpn_base.specs.declared.names.Malformed.{Malformed}
use Rattle.vpn_base.specs.declared.names.Role.TheVariants.{Server}
use Rattle.vpn_base.specs.declared.names.Sid.{Sid}
use Rattle.vpn_links.specs.Actions.{EngineOpen}
use Rattle.vpn_links.specs.declared.notes.Note.TheVariants as notes
use Rattle.opcode_codec.specs.ControlText.{ControlForm, control_of}
use Rattle.opcode_codec.specs.declared.opcodes.Opcode.{Opcode}
use Rattle.tls_crypt.specs.Packets.{Packet}
use Rattle.tls_crypt.specs.Unwrapping.{unwrapping}
use Rattle.peer_table.specs.declared.outcomes.Turn.{Turn}
use Rattle.peer_table.specs.ControlPackets.{sid_of}
use Rattle.peer_table.specs.Orderly.{IsOrderly, IsOrderlyFrom}
use Rattle.peer_table.specs.Peer.{Outcome, Peer, began}
use Rattle.peer_table.specs.Places.{changed_at, first_place}
use Rattle.server_table.specs.Table.{Client, Table}
use Rattle.server_table.specs.Lookups.{by_session, client_here, free_peer_id, greatest_peer_id, has_peer_id, has_session, if_here, is_full, unless_used, unused_from}
use Rattle.server_table.specs.Courses.{Course, reported}
use Rattle.server_table.specs.DataDatagrams.{FromWire}
use Rattle.server_table.specs.ControlDatagrams.{ControlPacket, admitted, admitted_unless_full, begins_client, client_begun, client_wraps, control_arrived, control_at, control_read, control_unwrapped, first_of, of_nobody, opened_for, own_sid, server_wraps, session_begun, with_admitted}
use Rattle.server_table.specs.Sound.{AreOrderly, IsEstablishedAt}
use Rattle.server_table.proofs.Places.{WasChanged, first_is, get_appended, get_changed, get_last, got_appended, got_changed, none_passes, none_some, some_same}
use Rattle.server_table.proofs.Sessions.{one_more, session_is}
use Rattle.server_table.specs.internal.CallsKeepOrder.{CallsKeepOrder}
use Rattle.server_table.proofs.Kept.{Kept, begins_late, plain_late}
use Rattle.server_table.proofs.Keeps.{acted_kept, all_mapped, here_at}
use Rattle.server_table.proofs.Settled.{Finished, Settled, is_past, past_done, refusal_settled}
use Rattle.server_table.proofs.KeptControl.{Alone, to_client_settled}

-- ---- a peer id that nobody has

none_of : (passes : Client → Bool) (clients : List Client) → list_any passes clients ≡ false → (i : ℕ) (x : Client) → slice_get clients i ≡ Some x → passes x ≡ false
none_of passes [] none i x there = absurd (none_some there)
none_of passes (y ∷ clients) none zero x there = ap passes (sym (some_same there)) ∙ (or_parts (passes y) (list_any passes clients) none).0
none_of passes (y ∷ clients) none (suc i) x there = none_of passes clients (or_parts (passes y) (list_any passes clients) none).1 i x there

-- a number is not used, or is the one behind all that were tried
abbrev IsUnused : List Client → ℕ → ℕ → Type 0
IsUnused clients last n = (list_any (has_peer_id n) clients ≡ false) ⊎ (n ≡ last)

unless_unused : (clients : List Client) (last n rest : ℕ) (b : Bool) → list_any (has_peer_id n) clients ≡ b → IsUnused clients last rest → IsUnused clients last (unless_used b n rest)
unless_unused clients last n rest true is later = later
unless_unused clients last n rest false is later = inl is

unused : (most n : ℕ) (clients : List Client) → IsUnused clients (n + most) (unused_from most n clients)
unused zero n clients = inr (omega arith)
unused (suc most) n clients =
    unless_unused clients (n + suc most) n (unused_from most (suc n) clients) (list_any (has_peer_id n) clients) refl
    (subst (λ (last : ℕ). IsUnused clients last (unused_from most (suc n) clients)) same (unused most (suc n) clients))
  where
    same : suc n + most ≡ n + suc most
    same = omega arith

at_most_greatest : (clients : List Client) (i : ℕ) (x : Client) → slice_get clients i ≡ Some x → x.peer_id ≤ greatest_peer_id clients
at_most_greatest [] i x there = absurd (none_some there)
at_most_greatest (y ∷ clients) zero x there =
    let same : y.peer_id ≡ x.peer_id = ap (λ (z : Client). z.peer_id) (some_same there) in omega (arith, same)
at_most_greatest (y ∷ clients) (suc i) x there = let rest = at_most_greatest clients i x there in omega (arith, rest)

-- nobody has the free peer id
pub free_is_unused : (t : Table) (i : ℕ) (x : Client) → slice_get t.clients i ≡ Some x → has_peer_id (free_peer_id t) x ≡ false
unfolding free_peer_id
free_is_unused t i x there = go (unused_from (suc (greatest_peer_id t.clients)) 0 t.clients) (unused (suc (greatest_peer_id t.clients)) 0 t.clients)
  where
    go : (n : ℕ) → IsUnused t.clients (0 + suc (greatest_peer_id t.clients)) n → has_peer_id n x ≡ false
    go n (inl none) = none_of (has_peer_id n) t.clients none i x there
    go n (inr last) =
        let most = at_most_greatest t.clients i x there in
        let apart : x.peer_id ≡ n → ⊥ = λ same. omega (arith, same, last, most) in
        and_right x.is_here (x.peer_id == n) (ne_eqb x.peer_id n apart)

-- ---- the new client stands behind all others

established_appended : (clients : List Client) (x : Client) (i : ℕ) → IsEstablishedAt clients i → IsEstablishedAt (clients ++ x ∷ []) i
established_appended clients x i is = record {
  client = is.client;
  there = get_appended clients x i is.client is.there;
  here = is.here;
  established = is.established;
}

orderly_appended : (clients : List Client) (x : Client) → IsOrderly x.session.sessions → AreOrderly clients → AreOrderly (clients ++ x ∷ [])
orderly_appended clients x new orderly i y there = go (got_appended clients x i y there)
  where
    go : ((i ≡ length clients) × (y ≡ x)) ⊎ (slice_get clients i ≡ Some y) → IsOrderly y.session.sessions
    go (inl w) = subst (λ (z : Client). IsOrderly z.session.sessions) (sym w.1) new
    go (inr e) = orderly i y e

no_session : (from at : Addr) (sid : Sid) (x : Client) → x.session.remote ≡ None → has_session at sid x ≡ true → ⊥
no_session from at sid x none passes = none_some (sym none ∙ (session_is at sid x passes).remote)

last_here : (from : Addr) (c : Course) (peer : Peer) →
    client_here (with_admitted (client_begun c.table from peer) c).table (length c.table.clients) ≡ Some (client_begun c.table from peer)
unfolding client_here
last_here from c peer = ap if_here (get_last c.table.clients (client_begun c.table from peer))

module _ {a : Table} {k : ℕ} where
  admitted_kept : (from : Addr) (c : Course) (peer : Peer) → IsOrderlyFrom None peer → Kept a k c → Kept a (suc k) (with_admitted (client_begun c.table from peer) c)
  admitted_kept from c peer new is =
      let x = client_begun c.table from peer in
      record {
        steady = is.steady;
        count = let more = length-append c.table.clients (x ∷ []) in let count = is.count in omega (arith, more, count);
        sound = λ s. let p = is.sound s in record {
          early = p.early;
          orderly = orderly_appended c.table.clients x new.orderly p.orderly;
          peer_ids = λ peer_id. one_more (has_peer_id peer_id) c.table.clients x
              (λ mine i y there others.
              false≢true (sym (free_is_unused c.table i y there) ∙ subst (λ (id : ℕ). has_peer_id id y ≡ true) (sym (eqb-true (free_peer_id c.table) peer_id mine)) others))
              (p.peer_ids peer_id);
          sessions = λ at sid. one_more (has_session at sid) c.table.clients x (λ mine i y there others. no_session from at sid x new.is_remote mine) (p.sessions at sid);
          owned = all_mapped c.table.routes.rows (λ row at. established_appended c.table.clients x row.1.0 at) p.owned;
        };
        still = λ s n y there. let still = is.still s n y there in record {
          client = still.client;
          there = get_appended c.table.clients x n still.client still.there;
          peer_id = still.peer_id;
          remote = still.remote;
          here = still.here;
        };
        plain = is.plain;
      }

module _ (calls : CallsKeepOrder) {a : Table} {k : ℕ} where
  opened_kept : (from : Addr) (c : Course) (o : Outcome Turn) → IsOrderlyFrom None o.peer → Kept a k c → Kept a (suc k) (opened_for from c o)
  opened_kept from c o new is =
      let x = client_begun c.table from o.peer in
      acted_kept (length c.table.clients) x o (with_admitted x c) (last_here from c o.peer)
      (λ orderly. record { orderly = orderly; is_remote = refl }) (admitted_kept from c o.peer new is)

-- ---- it alone has its address and session id

alone_new : (clients : List Client) (x : Client) (f : Client → Client) (from : Addr) (sid : Sid) → first_place (has_session from sid) clients ≡ None →
    Alone (changed_at (length clients) f (clients ++ x ∷ [])) (length clients) from sid
alone_new clients x f from sid none m y there passes = go (got_changed (length clients) m f (clients ++ x ∷ []) y there)
  where
    old : ((m ≡ length clients) × (y ≡ x)) ⊎ (slice_get clients m ≡ Some y) → m ≡ length clients
    old (inl w) = w.0
    old (inr e) = absurd (false≢true (sym (none_passes (has_session from sid) clients none m y e) ∙ passes))

    go : WasChanged (length clients) m f (clients ++ x ∷ []) y ⊎ (slice_get (clients ++ x ∷ []) m ≡ Some y) → m ≡ length clients
    go (inl w) = w.place
    go (inr e) = old (got_appended clients x m y e)

new_alone : (c : Course) (from : Addr) (sid : Sid) (o : Outcome Turn) → by_session c.table from sid ≡ None → (x : Client) →
    client_here (opened_for from c o).table (length c.table.clients) ≡ Some x → Alone (opened_for from c o).table.clients (length c.table.clients) x.address sid
unfolding by_session
new_alone c from sid o none x here =
    let begun = client_begun c.table from o.peer in
    let f : Client → Client = λ y. record y { session = o.peer } in
    let at = here_at (opened_for from c o).table (length c.table.clients) x here in
    let is : f begun ≡ x = some_same (sym (get_changed (length c.table.clients) f (c.table.clients ++ begun ∷ []) begun (get_last c.table.clients begun)) ∙ at.there) in
    subst (λ (at : Addr). Alone (opened_for from c o).table.clients (length c.table.clients) at sid) (ap (λ (y : Client). y.address) is)
    (alone_new c.table.clients begun f from sid none)

-- who is found by a session id has one
known_by : (t : Table) (from : Addr) (sid : Sid) (n : ℕ) (x : Client) → by_session t from sid ≡ Some n → client_here t n ≡ Some x → x.session.remote ≡ None → ⊥
unfolding by_session
known_by t from sid n x found here none =
    let f = first_is (has_session from sid) t.clients n found in
    let same : f.item ≡ x = some_same (sym f.there ∙ (here_at t n x here).there) in
    let s = session_is from sid f.item f.passed in
    none_some (sym (ap (λ (y : Client). y.session.remote) same ∙ none) ∙ s.remote)

-- its connection was opened
opened_past : (from : Addr) (draw : Draw) (c : Course) → begins_late c.effects ≡ true → is_past (opened_for from c (session_begun c.table draw)).effects ≡ true
unfolding began
opened_past from draw c late =
    past_done c.effects (EngineOpen (record { 0 = c.table.connections }) Server) [] refl late

module _ (calls : CallsKeepOrder) {a : Table} {k : ℕ} where
  admitted_settled : (d : FromWire) (draw : Draw) (r : ControlPacket) (c : Course) → by_session c.table d.from (sid_of r.packet) ≡ None →
      Kept a k c → Settled a (suc k) (admitted d draw r c)
  admitted_settled d draw r c nobody is =
      let o = session_begun c.table draw in
      to_client_settled calls r (length c.table.clients) (opened_for d.from c o)
      (λ x here none. new_alone c d.from (sid_of r.packet) o nobody x here)
      (inr (opened_past d.from draw c (plain_late c.effects is.plain)))
      (opened_kept calls d.from c o
      (calls.begins Server (server_wraps c.table) (own_sid draw) c.table.settings.timers (record { 0 = c.table.connections }) c.table.moment) is)

  wrapped_finished : (d : FromWire) (draw : Draw) (r : ControlPacket) (c : Course) (b : Bool) → by_session c.table d.from (sid_of r.packet) ≡ None → c.table ≡ a → Kept a k c →
      Finished a k (if b then reported (notes.Replayed r.packet.time r.packet.id) c else admitted d draw r c)
  wrapped_finished d draw r c true nobody same is = inl (refusal_settled (notes.Replayed r.packet.time r.packet.id) c same is)
  wrapped_finished d draw r c false nobody same is = inr (admitted_settled d draw r c nobody is)

  unless_full_finished : (d : FromWire) (draw : Draw) (r : ControlPacket) (c : Course) (b : Bool) → by_session c.table d.from (sid_of r.packet) ≡ None → c.table ≡ a → Kept a k c →
      Finished a k (admitted_unless_full d draw r c b)
  unless_full_finished d draw r c true nobody same is = inl (refusal_settled (notes.Full c.table.settings.max_clients) c same is)
  unless_full_finished d draw r c false nobody same is = wrapped_finished d draw r c (r.packet.id == 0) nobody same is

  nobody_finished : (d : FromWire) (draw : Draw) (r : ControlPacket) (c : Course) (b : Bool) → by_session c.table d.from (sid_of r.packet) ≡ None → c.table ≡ a → Kept a k c →
      Finished a k (of_nobody d draw r c b)
  nobody_finished d draw r c true nobody same is = unless_full_finished d draw r c (is_full c.table) nobody same is
  nobody_finished d draw r c false nobody same is = inl (refusal_settled (notes.UnknownSession (sid_of r.packet)) c same is)

  at_finished : (d : FromWire) (draw : Draw) (op : Opcode) (r : ControlPacket) (c : Course) (n : Option ℕ) → by_session c.table d.from (sid_of r.packet) ≡ n → c.table ≡ a → Kept a k c →
      Finished a k (control_at d draw op r c n)
  at_finished d draw op r c (Some n) found same is =
      inl (to_client_settled calls r n c (λ x here none. absurd (known_by c.table d.from (sid_of r.packet) n x found here none)) (inl same) is)
  at_finished d draw op r c None found same is = nobody_finished d draw r c (begins_client op r) found same is

  read_finished : (d : FromWire) (draw : Draw) (op : Opcode) (p : Packet) (c : Course) (form : Result ControlForm Malformed) → c.table ≡ a → Kept a k c →
      Finished a k (control_read d draw op p c form)
  read_finished d draw op p c (Err e) same is = inl (refusal_settled (notes.Malformed e (first_of d.bytes)) c same is)
  read_finished d draw op p c (Ok form) same is =
      at_finished d draw op (record { packet = p; form = form }) c (by_session c.table d.from (sid_of p)) refl same is

  unwrapped_finished : (d : FromWire) (draw : Draw) (op : Opcode) (c : Course) (p : Option Packet) → c.table ≡ a → Kept a k c →
      Finished a k (control_unwrapped d draw op c p)
  unwrapped_finished d draw op c None same is = inl (refusal_settled notes.NotWrapped c same is)
  unwrapped_finished d draw op c (Some p) same is = read_finished d draw op p c (control_of op p.plain) same is

  pub control_finished : (d : FromWire) (draw : Draw) (op : Opcode) (c : Course) → c.table ≡ a → Kept a k c → Finished a k (control_arrived d draw op c)
  unfolding control_arrived
  control_finished d draw op c same is = unwrapped_finished d draw op c (unwrapping (client_wraps c.table) d.bytes) same is
