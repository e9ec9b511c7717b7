-- Time and the end keep the key sessions of a client orderly.
use Rattle.std.proofs.Common.{◌≡◌, ℕ, zero, suc, Bool, true, false, List, [], ◌∷◌, ◌++◌, length, map, Option, Some, None, refl, ap, ◌∙◌, arith}
use Rattle.std.proofs.lemmas.List.{length-map}
use Rattle.std.proofs.lemmas.Bool.{false≢true}
use Rattle.std.specs.Prelude.{◌&&◌, slice_get}
use Rattle.vpn_base.specs.declared.names.Conn.{Conn}
use Rattle.control_link.specs.Calls as link
use Rattle.peer_table.specs.declared.outcomes.Turn.{Turn}
use Rattle.peer_table.specs.KeySessions.{Session, closed, has_keys}
use Rattle.peer_table.specs.declared.outcomes.Turn.TheVariants.{Going}
use Rattle.vpn_base.specs.declared.names.Sid.{Sid}
use Rattle.vpn_base.specs.declared.names.Timers.{Timers}
use Rattle.tls_crypt.specs.Packets.{Wrapping}
use Rattle.peer_table.specs.Peer.{Opens, Outcome, Peer, answered, peer_begun, ready_sent, ready_sent_in, remote_of, reset_by, began}
use Rattle.vpn_base.specs.declared.names.Role.{Role}
use Rattle.vpn_base.specs.declared.names.Role.TheVariants.{Server, Client}
use Rattle.peer_table.specs.ControlPackets.{with_next}
use Rattle.peer_table.specs.Exchange.{is_open_keyed, session_closed}
use Rattle.peer_table.specs.Orderly.{IsOrderlyFrom, all_before_have_keys, how_many}
use Rattle.peer_table.specs.Places.{changed_at}
use Rattle.peer_table.specs.Time.{Ticking, all_closed, gone_by, is_late, renewed, renews, resent, resent_in, retired, staying, ticked, ticked_idle, ticked_late}
use Rattle.peer_table.proofs.Order.{both}
use Rattle.peer_table.proofs.Begun.{last_has_keys, newest_has_keys}
use Rattle.peer_table.proofs.Calls.{changed, gone_on_orderly, next_orderly}

-- a peer's key sessions are orderly, its session id is this, and the last session has keys where it is to have them
pub record IsKept (b : Bool) (r : Option Sid) (p : Peer) : Type 0 where
  pub from : IsOrderlyFrom r p
  pub last : b ≡ true → last_has_keys p.sessions ≡ true

changed_last : (n : ℕ) (f : Session → Session) (ss : List Session) → ((s : Session) → has_keys s ≡ true → has_keys (f s) ≡ true) →
    last_has_keys ss ≡ true → last_has_keys (changed_at n f ss) ≡ true
changed_last n f [] keeps k = k
changed_last zero f (s ∷ []) keeps k = keeps s k
changed_last (suc n) f (s ∷ []) keeps k = k
changed_last zero f (s ∷ t ∷ ss) keeps k = k
changed_last (suc zero) f (s ∷ t ∷ ss) keeps k = changed_last zero f (t ∷ ss) keeps k
changed_last (suc (suc n)) f (s ∷ t ∷ ss) keeps k = changed_last (suc n) f (t ∷ ss) keeps k

-- ---- what is due

resent_in_kept : {r : Option Sid} (b : Bool) (n at : ℕ) (c : Outcome Turn) (s : Option Session) → IsKept b r c.peer → IsKept b r (resent_in n at c s).peer
resent_in_kept b n at c None is = is
resent_in_kept b n at c (Some s) is =
    let o = link.ticked s.link c.peer.envelope (remote_of c.peer) at in record {
      from = gone_on_orderly n o c is.from;
      last = λ e. changed_last n (λ s. record s { link = o.link }) c.peer.sessions (λ s k. k) (is.last e);
    }

resent_kept : {r : Option Sid} (b : Bool) (at : ℕ) (numbers : List ℕ) (c : Outcome Turn) → IsKept b r c.peer → IsKept b r (resent at numbers c).peer
resent_kept b at [] c is = is
resent_kept b at (n ∷ numbers) c is =
    resent_kept b at numbers (resent_in n at c (slice_get c.peer.sessions n)) (resent_in_kept b n at c (slice_get c.peer.sessions n) is)

-- ---- the retired session

closed_keeps : (s : Session) → is_open_keyed (closed s) ≡ true → is_open_keyed s ≡ true
closed_keeps s k = absurd (false≢true k)

retired_kept : {r : Option Sid} (b : Bool) (n : Option ℕ) (c : Outcome Turn) → IsKept b r c.peer → IsKept b r (session_closed n c).peer
retired_kept b None c is = is
retired_kept b (Some n) c is = record {
  from = changed n closed c.peer (λ s at. record { keyed = λ k. k; few = closed_keeps s }) is.from;
  last = λ e. changed_last n closed c.peer.sessions (λ s k. k) (is.last e);
}

-- ---- the next session

ready_in_orderly : {r : Option Sid} (n now : ℕ) (c : Outcome Turn) (s : Option Session) → IsOrderlyFrom r c.peer → IsOrderlyFrom r (ready_sent_in n now c s).peer
ready_in_orderly n now c None is = is
ready_in_orderly n now c (Some s) is = gone_on_orderly n (link.with_ready s.link c.peer.envelope [] (remote_of c.peer) now) c is

ready_orderly : {r : Option Sid} (n now : ℕ) (c : Outcome Turn) → IsOrderlyFrom r c.peer → IsOrderlyFrom r (ready_sent n now c).peer
ready_orderly n now c is = ready_in_orderly n now c (slice_get c.peer.sessions n) is

renewed_orderly : {r : Option Sid} (t : Ticking) (b : Bool) (c : Outcome Turn) → IsKept b r c.peer → IsOrderlyFrom r (renewed t b c).peer
renewed_orderly t false c is = is.from
renewed_orderly t true c is =
    ready_orderly (length c.peer.sessions) t.at (record c { peer = with_next t.next_conn t.at c.peer; doings = c.doings ++ Opens t.next_conn ∷ [] })
    (next_orderly t.next_conn t.at c.peer (is.last refl) is.from)

renews_last : (p : Peer) (t : Ticking) → renews p t ≡ true → last_has_keys p.sessions ≡ true
renews_last p t e = newest_has_keys t.established p.sessions (both (both e).0).0

gone_by_orderly : {r : Option Sid} (p : Peer) (t : Ticking) (n : Option ℕ) → IsOrderlyFrom r p → IsOrderlyFrom r (gone_by p t n).peer
gone_by_orderly p t n is =
    renewed_orderly t (renews p t) (session_closed n (resent t.at (staying p n) (answered p Going)))
    (retired_kept (renews p t) n (resent t.at (staying p n) (answered p Going))
    (resent_kept (renews p t) t.at (staying p n) (answered p Going) (record { from = is; last = renews_last p t })))

idle_orderly : {r : Option Sid} (p : Peer) (t : Ticking) (b : Bool) → IsOrderlyFrom r p → IsOrderlyFrom r (ticked_idle p t b).peer
idle_orderly p t true is = is
idle_orderly p t false is = gone_by_orderly p t (retired p t.at) is

late_orderly : {r : Option Sid} (p : Peer) (t : Ticking) (b : Bool) → IsOrderlyFrom r p → IsOrderlyFrom r (ticked_late p t b).peer
late_orderly p t true is = is
late_orderly p t false is = idle_orderly p t t.idle is

-- time has passed
pub tick_orderly : {r : Option Sid} (t : Ticking) (p : Peer) → IsOrderlyFrom r p → IsOrderlyFrom r (ticked t p).peer
unfolding ticked
tick_orderly t p is = late_orderly p t (is_late p t) is

-- ---- the beginning and the end

reset_orderly : {r : Option Sid} (role : Role) (now : ℕ) (c : Outcome Turn) → IsOrderlyFrom r c.peer → IsOrderlyFrom r (reset_by role now c).peer
reset_orderly Server now c is = is
reset_orderly Client now c is = ready_orderly 0 now c is

-- a peer begins with no session id of the other end
pub begun_orderly : (role : Role) (wraps : Wrapping) (own : Sid) (timers : Timers) (conn : Conn) (now : ℕ) → IsOrderlyFrom None (peer_begun role wraps own timers conn now)
begun_orderly role wraps own timers conn now = record { orderly = record { begun = omega arith; keyed = refl; few = omega arith }; is_remote = refl }

-- a peer begins
pub began_orderly : (role : Role) (wraps : Wrapping) (own : Sid) (timers : Timers) (conn : Conn) (now : ℕ) → IsOrderlyFrom None (began role wraps own timers conn now).peer
unfolding began
began_orderly role wraps own timers conn now =
    reset_orderly role now (record { peer = peer_begun role wraps own timers conn now; doings = Opens conn ∷ []; datagrams = []; answer = Going })
    (begun_orderly role wraps own timers conn now)

mapped_keyed : (ss : List Session) → all_before_have_keys (map closed ss) ≡ all_before_have_keys ss
mapped_keyed [] = refl
mapped_keyed (s ∷ []) = refl
mapped_keyed (s ∷ t ∷ ss) = ap (λ (b : Bool). has_keys s && b) (mapped_keyed (t ∷ ss))

mapped_few : (ss : List Session) → how_many is_open_keyed (map closed ss) ≡ 0
mapped_few [] = refl
mapped_few (s ∷ ss) = mapped_few ss

-- every session is closed
pub closed_orderly : {r : Option Sid} (p : Peer) → IsOrderlyFrom r p → IsOrderlyFrom r (all_closed p)
closed_orderly p is = record {
  is_remote = is.is_remote;
  orderly = record {
    begun = omega (arith, length-map p.sessions closed, is.orderly.begun);
    keyed = mapped_keyed p.sessions ∙ is.orderly.keyed;
    few = omega (arith, mapped_few p.sessions);
  };
}
