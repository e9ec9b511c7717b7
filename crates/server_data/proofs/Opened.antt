-- Data packets that are opened, and those that are refused.
use Rattle.std.proofs.Common.{◌≡◌, ℕ, zero, suc, Bool, true, false, cond, List, [], ◌∷◌, slice_get, Option, Some, None, Result, Err, refl, sym, ap, ◌∙◌}
use Rattle.std.specs.Prelude.{unwrap_or, is_some}
use Rattle.std.proofs.lemmas.Bool.{false≢true}
use Rattle.vpn_base.specs.declared.names.Freshness.{Freshness}
use Rattle.vpn_base.specs.declared.names.Freshness.TheVariants.{Fresh, Zero, Old, Seen, Late}
use Rattle.vpn_base.specs.declared.names.Moment.{Moment}
use Rattle.vpn_base.specs.declared.names.Place.{Place}
use Rattle.vpn_links.specs.Actions.{Action, Contents}
use Rattle.peer_table.specs.declared.outcomes.SessionFault.{SessionFault}
use Rattle.peer_table.specs.DataPackets as packets
use Rattle.peer_table.specs.KeySessions.{Keys, Session, keys_of}
use Rattle.peer_table.specs.Peer.{Outcome, Peer}
use Rattle.peer_table.specs.Places.{changed_at}
use Rattle.packet_ids.specs.Freshness.{freshness}
use Rattle.server_table.specs.Courses.{Course, with_client}
use Rattle.server_table.specs.DataDatagrams as server
use Rattle.server_table.specs.Lookups.{client_here, if_here}
use Rattle.server_table.specs.Table.{Client, Table}
use Rattle.server_state.specs.declared.state.ServerCore.{ServerCore}
use Rattle.server_state.specs.Core.{CoreStands, CourseStands}

-- ---- what is told of the last datagram

pub with_last_taken : {S : Type 0} (means : S → Peer → Type 0) (core : ServerCore S) (t : Table) (a b : Option Place) → CoreStands means core t
    → a ≡ b → CoreStands means (record core { last_taken = a }) (record t { last_taken = b })
with_last_taken means core t a b h is = record {
  settings = h.settings;
  key = h.key;
  clients = h.clients;
  admitted = h.admitted;
  most = h.most;
  routes = h.routes;
  pool = h.pool;
  queue = h.queue;
  moment = h.moment;
  connections = h.connections;
  bytes_in = h.bytes_in;
  bytes_out = h.bytes_out;
  count_interval = h.count_interval;
  counted_at = h.counted_at;
  is_stopped = h.is_stopped;
  events = h.events;
  last_taken = is;
}

-- a stale packet went to its session
pub stale_is : {S : Type 0} (means : S → Peer → Type 0) (before : List Action) (core : ServerCore S) (out : Contents) (c : Course) (a b : Option Place)
    → CourseStands means before core out c → a ≡ b
    → CourseStands means before (record core { last_taken = a }) out (record c { table = server.went_to b c.table })
stale_is means before core out c a b h is =
    record { table = with_last_taken means core c.table a b h.table is; outbox = h.outbox; in_turn = h.in_turn }

-- ---- the session

-- opening leaves the other end's session id and name, and everything where it fails
pub record OpeningKeeps (p : Peer) (o : Outcome (Result (List ℕ) SessionFault)) : Type 0 where
  pub remote : o.peer.remote ≡ p.remote
  pub name : o.peer.name ≡ p.name
  pub failed : (fault : SessionFault) → o.answer ≡ Err fault → o.peer ≡ p

judged_keeps : (p : Peer) (n : ℕ) (s : Session) (moment : Moment) (id : ℕ) (inner : List ℕ) (f : Freshness) → OpeningKeeps p (packets.opened_judged p n s moment id inner f)
judged_keeps p n s moment id inner Fresh = record { remote = refl; name = refl; failed = λ fault e. cc }
judged_keeps p n s moment id inner Zero = record { remote = refl; name = refl; failed = λ fault e. refl }
judged_keeps p n s moment id inner Old = record { remote = refl; name = refl; failed = λ fault e. refl }
judged_keeps p n s moment id inner Seen = record { remote = refl; name = refl; failed = λ fault e. refl }
judged_keeps p n s moment id inner Late = record { remote = refl; name = refl; failed = λ fault e. refl }

as_keeps : (p : Peer) (n : ℕ) (s : Session) (moment : Moment) (o : Option (ℕ × List ℕ)) → OpeningKeeps p (packets.opened_as p n s moment o)
as_keeps p n s moment None = record { remote = refl; name = refl; failed = λ fault e. refl }
as_keeps p n s moment (Some o) = judged_keeps p n s moment o.0 o.1 (freshness s.received o.0 moment)

by_keeps : (p : Peer) (datagram : List ℕ) (n : ℕ) (s : Session) (moment : Moment) (k : Option Keys) → OpeningKeeps p (packets.opened_by p datagram n s moment k)
by_keeps p datagram n s moment None = record { remote = refl; name = refl; failed = λ fault e. refl }
by_keeps p datagram n s moment (Some k) = as_keeps p n s moment _

in_keeps : (p : Peer) (datagram : List ℕ) (moment : Moment) (n : Option ℕ) (s : Option Session) → OpeningKeeps p (packets.opened_in p datagram moment n s)
in_keeps p datagram moment (Some n) (Some s) = by_keeps p datagram n s moment (keys_of s.stage)
in_keeps p datagram moment (Some n) None = record { remote = refl; name = refl; failed = λ fault e. refl }
in_keeps p datagram moment None s = record { remote = refl; name = refl; failed = λ fault e. refl }

pub keeps : (p : Peer) (datagram : List ℕ) (moment : Moment) → OpeningKeeps p (packets.data_came datagram moment p)
unfolding packets.data_came
keeps p datagram moment = in_keeps p datagram moment _ _

-- ---- lists

pub changed_id : {X : Type 0} (n : ℕ) (xs : List X) → changed_at n (λ (x : X). x) xs ≡ xs
changed_id n [] = refl
changed_id zero (x ∷ xs) = refl
changed_id (suc n) (x ∷ xs) = ap (λ ys. x ∷ ys) (changed_id n xs)

got_changed : {X : Type 0} (n : ℕ) (g : X → X) (xs : List X) (x : X) → slice_get xs n ≡ Some x → slice_get (changed_at n g xs) n ≡ Some (g x)
got_changed n g [] x e = absurd (false≢true (ap is_some e))
got_changed zero g (y ∷ xs) x e = ap (λ o. Some (g (unwrap_or o x))) e
got_changed (suc n) g (y ∷ xs) x e = got_changed n g xs x e

here_step : (y x : Client) (b : Bool) → y.is_here ≡ b → cond b (Some y) None ≡ Some x → (Some y ≡ Some x) × (y.is_here ≡ true)
here_step y x true is e = (e, is)
here_step y x false is e = absurd (false≢true (ap is_some e))

from_here : (o : Option Client) (x : Client) → if_here o ≡ Some x → (o ≡ Some x) × (x.is_here ≡ true)
from_here None x e = absurd (false≢true (ap is_some e))
from_here (Some y) x e =
    let h = here_step y x y.is_here refl e in
    (h.0, sym (ap (λ o. (unwrap_or o x).is_here) h.0) ∙ h.1)

-- the client of the number, after a change
pub here_changed : (t : Table) (n : ℕ) (g : Client → Client) (x : Client) (went : Option Place) (bytes : ℕ) → client_here t n ≡ Some x → (g x).is_here ≡ x.is_here
    → client_here (record (with_client n g t) { last_taken = went; bytes_in = bytes }) n ≡ Some (g x)
unfolding client_here
here_changed t n g x went bytes here same =
    let h = from_here (slice_get t.clients n) x here in
    ap if_here (got_changed n g t.clients x h.0) ∙ ap (λ b. cond b (Some (g x)) None) (same ∙ h.1)
