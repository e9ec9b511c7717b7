-- A control packet that comes keeps what a course keeps.
use Rattle.std.proofs.Common.{◌≡◌, ℕ, zero, suc, ◌+◌, Bool, true, false, List, [], ◌∷◌, length, Option, Some, None, refl, sym, ap, ap₂, ◌∙◌, inl, inr, add-zero, Result, Ok, Err}
use Rattle.std.specs.Prelude.{slice_get}
use Rattle.std.specs.Option.{option_or}
use Rattle.std.proofs.lemmas.Bool.{false≢true}
use Rattle.vpn_base.specs.declared.address.Addr.{Addr}
use Rattle.vpn_base.specs.declared.names.Freshness.{Freshness}
use Rattle.vpn_base.specs.declared.names.Freshness.TheVariants.{Fresh, Zero, Old, Seen, Late}
use Rattle.vpn_base.specs.declared.names.Place.{Place}
use Rattle.vpn_base.specs.declared.names.Sid.{Sid}
use Rattle.vpn_links.specs.Actions.{Report}
use Rattle.vpn_links.specs.declared.notes.Note.TheVariants as notes
use Rattle.packet_ids.specs.LongFreshness.{long_freshness}
use Rattle.peer_table.specs.declared.outcomes.Refused.{Refused}
use Rattle.peer_table.specs.declared.outcomes.Refused.TheVariants.{Replayed, BadKey}
use Rattle.peer_table.specs.declared.outcomes.Turn.{Turn}
use Rattle.peer_table.specs.ControlPackets.{Incoming, begins_next, begun_by, control_came, judged, kid_in, next_session, placed, sender, sid_of, taken_by, with_next}
use Rattle.peer_table.specs.KeySessions.{Session, live_with}
use Rattle.peer_table.specs.Orderly.{IsOrderly, IsOrderlyFrom, IsOrderlyOrFixed}
use Rattle.peer_table.specs.Outboxes.{actions_of}
use Rattle.peer_table.specs.Peer.{Outcome, Peer}
use Rattle.peer_table.specs.Places.{changed_at}
use Rattle.server_table.specs.Table.{Client, Table}
use Rattle.server_table.specs.Lookups.{cid, client_here, has_session}
use Rattle.server_table.specs.Courses.{Course, acted, client_changed, did, opened_by}
use Rattle.server_table.specs.DataDatagrams.{went_to}
use Rattle.server_table.specs.Endings.{turned}
use Rattle.server_table.specs.ControlDatagrams.{ControlPacket, control_answered, control_for, control_place, incoming, to_client, with_fresh}
use Rattle.server_table.specs.Sound.{AtMostOne}
use Rattle.server_table.proofs.Places.{some_same}
use Rattle.server_table.proofs.Sessions.{changed_back, has_session_of, joined, session_is, shadowed}
use Rattle.server_table.specs.internal.CallsKeepOrder.{CallsKeepOrder}
use Rattle.server_table.proofs.Kept.{Changes, Kept, altered, done_kept, orderly_from, plain_actions, plain_onward, stops_append}
use Rattle.server_table.proofs.Keeps.{all_mapped, at_place, did_kept, established_changed, here_at, keeps_kept, keeps_session}
use Rattle.server_table.proofs.KeptEndings.{turned_kept}
use Rattle.server_table.proofs.Settled.{MayRefuse, Settled, kept_settled, not_refused, past_append, past_late}

-- who has this address and session id is the client of this number
abbrev pub Alone : List Client → ℕ → Addr → Sid → Type 0
Alone clients n from sid = (m : ℕ) (y : Client) → slice_get clients m ≡ Some y → has_session from sid y ≡ true → m ≡ n

-- ---- a packet that is replayed leaves the session

is_replayed : Result Turn Refused → Bool
is_replayed (Ok turn) = false
is_replayed (Err (Replayed time id)) = true
is_replayed (Err (BadKey kid)) = false

taken_not : (p : Peer) (i : Incoming) (n : ℕ) (s : Option Session) → is_replayed (taken_by p i n s).answer ≡ false
unfolding is_replayed
taken_not p i n None = refl
taken_not p i n (Some s) = refl

begun_not : (p : Peer) (i : Incoming) (b : Bool) → is_replayed (begun_by p i b).answer ≡ false
unfolding is_replayed
begun_not p i false = refl
begun_not p i true = taken_not (with_next i.next_conn i.moment.0 p) i (length p.sessions) (Some (next_session i.next_conn i.moment.0 p))

placed_not : (p : Peer) (i : Incoming) (n : Option ℕ) → is_replayed (placed p i n).answer ≡ false
placed_not p i (Some n) = taken_not p i n (slice_get p.sessions n)
placed_not p i None = begun_not p i (begins_next p i)

-- nothing was done
pub record IsAsBefore {A : Type 0} (p : Peer) (o : Outcome A) : Type 0 where
  pub peer : o.peer ≡ p
  pub doings : o.doings ≡ []

replayed_judged : (p : Peer) (i : Incoming) (f : Freshness) (time id : ℕ) → (judged p i f).answer ≡ Err (Replayed time id) → IsAsBefore p (judged p i f)
unfolding is_replayed
replayed_judged p i Fresh time id e =
    absurd (false≢true (sym (placed_not p i (live_with p.timers i.moment.0 p.sessions (kid_in i))) ∙ ap is_replayed e))
replayed_judged p i Zero time id e = record { peer = refl; doings = refl }
replayed_judged p i Old time id e = record { peer = refl; doings = refl }
replayed_judged p i Seen time id e = record { peer = refl; doings = refl }
replayed_judged p i Late time id e = record { peer = refl; doings = refl }

replayed_before : (p : Peer) (i : Incoming) (time id : ℕ) → (control_came p i).answer ≡ Err (Replayed time id) → IsAsBefore p (control_came p i)
unfolding control_came
replayed_before p i time id e = replayed_judged p i (long_freshness p.envelope.accepted i.packet.time i.packet.id i.moment) time id e

changed_same : (n : ℕ) (f : Client → Client) (clients : List Client) → ((y : Client) → slice_get clients n ≡ Some y → f y ≡ y) → changed_at n f clients ≡ clients
changed_same n f [] same = refl
changed_same zero f (x ∷ clients) same = ap (λ (y : Client). y ∷ clients) (same x refl)
changed_same (suc n) f (x ∷ clients) same = ap (λ (rest : List Client). x ∷ rest) (changed_same n f clients same)

acted_same : {A : Type 0} (n : ℕ) (x : Client) (o : Outcome A) (c : Course) → slice_get c.table.clients n ≡ Some x → IsAsBefore x.session o → (acted n x.address o c).table ≡ c.table
acted_same n x o c there before =
    ap₂ (λ (clients : List Client) (connections : ℕ). let t : Table = record c.table { clients = clients; connections = connections } in t)
    (changed_same n (λ y. record y { session = o.peer }) c.table.clients
    (at_place (λ y. record y { session = o.peer } ≡ y) c.table.clients n x there (ap (λ (p : Peer). let y : Client = record x { session = p } in y) before.peer)))
    (ap (λ doings. c.table.connections + opened_by doings) before.doings ∙ add-zero c.table.connections)

-- ---- the first packet fixes the session id

fixed_remote : (remote : Option Sid) (i : Incoming) (p : Peer) → IsOrderlyOrFixed remote i p → (sid : Sid) → remote ≡ Some sid → p.remote ≡ Some sid
fixed_remote remote i p (inl f) sid is = f.is_remote ∙ is
fixed_remote remote i p (inr f) sid is = f.is_remote ∙ ap (λ (o : Option Sid). option_or o (Some (sender i))) is

fixed_orderly : (remote : Option Sid) (i : Incoming) (p : Peer) → IsOrderlyOrFixed remote i p → IsOrderly p.sessions
fixed_orderly remote i p (inl f) = f.orderly
fixed_orderly remote i p (inr f) = f.orderly

-- it was not fixed now, or nothing else has it
data HowFixed (remote : Option Sid) (sid : Sid) (p : Peer) : Type 0 where
  Same : IsOrderlyFrom remote p → HowFixed remote sid p
  Now : remote ≡ None → p.remote ≡ Some sid → HowFixed remote sid p

how_known : (remote known : Option Sid) (i : Incoming) (p : Peer) → remote ≡ known → IsOrderlyFrom (option_or remote (Some (sender i))) p → HowFixed remote (sender i) p
how_known remote (Some known) i p is f =
    Same (record { orderly = f.orderly; is_remote = f.is_remote ∙ ap (λ (o : Option Sid). option_or o (Some (sender i))) is ∙ sym is })
how_known remote None i p is f = Now is (f.is_remote ∙ ap (λ (o : Option Sid). option_or o (Some (sender i))) is)

how_fixed : (remote : Option Sid) (i : Incoming) (p : Peer) → IsOrderlyOrFixed remote i p → HowFixed remote (sender i) p
how_fixed remote i p (inl f) = Same f
how_fixed remote i p (inr f) = how_known remote remote i p refl f

fixed_alone : (clients : List Client) (n : ℕ) (x : Client) (p : Peer) (fixed : Sid) → p.remote ≡ Some fixed → Alone clients n x.address fixed →
    (at : Addr) (sid : Sid) → has_session at sid (record x { session = p }) ≡ true →
    (i : ℕ) (z : Client) → slice_get clients i ≡ Some z → has_session at sid z ≡ true → i ≡ n
fixed_alone clients n x p fixed is alone at sid passes i z there others =
    let q = session_is at sid (record x { session = p }) passes in
    let r = session_is at sid z others in
    let same : q.known ≡ fixed = some_same (sym q.remote ∙ is) in
    alone i z there (has_session_of x.address fixed z (record {
      here = r.here;
      ip = r.ip ∙ sym q.ip;
      port = r.port ∙ sym q.port;
      known = r.known;
      remote = r.remote;
      same = r.same ∙ sym q.same ∙ ap (λ (s : Sid). s.0) same;
    }))

fixed_one : (clients : List Client) (n : ℕ) (x : Client) (p : Peer) (sid : Sid) → slice_get clients n ≡ Some x → HowFixed x.session.remote sid p →
    (x.session.remote ≡ None → Alone clients n x.address sid) → ((from : Addr) (sid : Sid) → AtMostOne (has_session from sid) clients) →
    IsOrderly x.session.sessions → (at : Addr) (other : Sid) → AtMostOne (has_session at other) (changed_at n (λ y. record y { session = p }) clients)
fixed_one clients n x p sid there (Same f) alone one o at other =
    shadowed (has_session at other) clients (changed_at n (λ y. record y { session = p }) clients)
    (changed_back (has_session at other) n (λ y. record y { session = p }) clients
    (at_place (λ y. has_session at other (record y { session = p }) ≡ true → has_session at other y ≡ true) clients n x there
    (keeps_session at other x (record x { session = p })
    (record { peer_id = refl; here = refl; address = refl; established = λ e. e; session = λ o. f }) o)))
    (one at other)
fixed_one clients n x p sid there (Now none is) alone one o at other =
    joined (has_session at other) n (λ y. record y { session = p }) clients
    (at_place (λ y. has_session at other (record y { session = p }) ≡ true →
    (i : ℕ) (z : Client) → slice_get clients i ≡ Some z → has_session at other z ≡ true → i ≡ n) clients n x there
    (fixed_alone clients n x p sid is (alone none) at other))
    (one at other)

module _ {a : Table} {k : ℕ} where
  -- the session of a client, whose session id this may fix, has taken a control packet
  pub fixed_kept : {A : Type 0} (n : ℕ) (x : Client) (i : Incoming) (o : Outcome A) (c : Course) → client_here c.table n ≡ Some x →
      (IsOrderly x.session.sessions → IsOrderlyOrFixed x.session.remote i o.peer) → (x.session.remote ≡ None → Alone c.table.clients n x.address (sender i)) →
      Kept a k c → Kept a k (acted n x.address o c)
  fixed_kept n x i o c here fixed alone is =
      let at = here_at c.table n x here in
      let f : Client → Client = λ y. record y { session = o.peer } in
      done_kept (actions_of o.peer.role o.doings) (plain_actions o.peer.role o.doings)
      (altered c.table.routes.rows n f
      (at_place (λ y. Changes y (f y)) c.table.clients n x at.there
      (record {
        peer_id = refl;
        here = λ e. e;
        session = λ orderly. fixed_orderly x.session.remote i o.peer (fixed orderly);
        remote = λ orderly. fixed_remote x.session.remote i o.peer (fixed orderly);
      }))
      (λ sound s. let orderly = s.orderly n x at.there in
      fixed_one c.table.clients n x o.peer (sender i) at.there (how_fixed x.session.remote i o.peer (fixed orderly)) alone s.sessions orderly)
      (λ s. all_mapped c.table.routes.rows (λ row at. established_changed n f c.table.clients (λ y there here est. (here, est)) row.1.0 at) s.owned)
      is)

-- a replay, where something was done or the table is as it was
module _ {a : Table} {k : ℕ} where
  replay_settled : {A : Type 0} (n : ℕ) (x : Client) (o : Outcome A) (c : Course) (time id : ℕ) → slice_get c.table.clients n ≡ Some x → IsAsBefore x.session o → MayRefuse a c →
      Kept a k (acted n x.address o c) →
      Settled a k (did (Report (notes.Replayed time id)) (acted n x.address o c))
  replay_settled n x o c time id there before (inl same) is = record {
    kept = record { steady = is.steady; count = is.count; sound = is.sound; still = is.still; plain = refl };
    onward = stops_append (acted n x.address o c).effects (Report (notes.Replayed time id) ∷ []) (plain_onward (acted n x.address o c).effects is.plain) refl;
    refused = λ refused. acted_same n x o c there before ∙ same;
  }
  replay_settled n x o c time id there before (inr past) is = record {
    kept = record { steady = is.steady; count = is.count; sound = is.sound; still = is.still; plain = refl };
    onward = stops_append (acted n x.address o c).effects (Report (notes.Replayed time id) ∷ []) (plain_onward (acted n x.address o c).effects is.plain) refl;
    refused = λ refused. absurd (false≢true (sym (not_refused (did (Report (notes.Replayed time id)) (acted n x.address o c)).effects (acted n x.address o c).staged
        (past_late (did (Report (notes.Replayed time id)) (acted n x.address o c)).effects
        (past_append (acted n x.address o c).effects (Report (notes.Replayed time id) ∷ []) (past_append c.effects (actions_of o.peer.role o.doings) past)))) ∙ refused));
  }

module _ (calls : CallsKeepOrder) {a : Table} {k : ℕ} where
  fresh_kept : (n now : ℕ) (c : Course) → Kept a k c → Kept a k (client_changed n (with_fresh now) c)
  fresh_kept n now c is =
      keeps_kept n (with_fresh now)
      (λ y there. record { peer_id = refl; here = refl; address = refl; established = λ e. e; session = orderly_from y.session }) is

  answered_settled : (n : ℕ) (x : Client) (to : Option Place) (c : Course) (o : Outcome (Result Turn Refused)) (answer : Result Turn Refused) →
      slice_get c.table.clients n ≡ Some x → ((time id : ℕ) → answer ≡ Err (Replayed time id) → IsAsBefore x.session o) → MayRefuse a c →
      Kept a k (acted n x.address o c) → Settled a k (control_answered n to (acted n x.address o c) answer)
  answered_settled n x to c o (Ok turn) there replayed may is =
      let d = acted n x.address o c in
      let e : Course = client_changed n (with_fresh d.table.moment) (record d { table = went_to to d.table }) in
      kept_settled (turned n turn e) (turned_kept calls n turn e (fresh_kept n d.table.moment d is))
  answered_settled n x to c o (Err (BadKey kid)) there replayed may is =
      let d = acted n x.address o c in
      kept_settled (control_answered n to d (Err (BadKey kid)))
      (did_kept (Report (notes.BadKey (cid n) kid)) (client_changed n (with_fresh d.table.moment) d) refl (fresh_kept n d.table.moment d is))
  answered_settled n x to c o (Err (Replayed time id)) there replayed may is = replay_settled n x o c time id there (replayed time id refl) may is

  control_for_settled : (r : ControlPacket) (n : ℕ) (c : Course) (x : Option Client) → client_here c.table n ≡ x →
      ((x : Client) → client_here c.table n ≡ Some x → x.session.remote ≡ None → Alone c.table.clients n x.address (sid_of r.packet)) → MayRefuse a c →
      Kept a k c → Settled a k (control_for r n c x)
  control_for_settled r n c None here alone may is = kept_settled c is
  control_for_settled r n c (Some x) here alone may is =
      let i = incoming r c x in
      let o = control_came x.session i in
      answered_settled n x (control_place i x.session o.peer) c o o.answer (here_at c.table n x here).there (λ time id e. replayed_before x.session i time id e) may
      (fixed_kept n x i o c here (λ orderly. calls.control x.session.remote x.session i (orderly_from x.session orderly)) (alone x here) is)

  pub to_client_settled : (r : ControlPacket) (n : ℕ) (c : Course) →
      ((x : Client) → client_here c.table n ≡ Some x → x.session.remote ≡ None → Alone c.table.clients n x.address (sid_of r.packet)) → MayRefuse a c →
      Kept a k c → Settled a k (to_client r n c)
  unfolding to_client
  to_client_settled r n c alone may is = control_for_settled r n c (client_here c.table n) refl alone may is
