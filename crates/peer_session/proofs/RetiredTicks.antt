-- Time closes a key session only where it can no longer be used, and a client begins with none that is retired.
use Rattle.std.proofs.Common.{◌≡◌, ◌≤◌, ℕ, Bool, true, false, List, [], ◌∷◌, ◌++◌, length, Option, Some, None, refl, sym, subst}
use Rattle.std.proofs.lemmas.Option.{none-some}
use Rattle.std.specs.Prelude.{slice_get}
use Rattle.vpn_base.specs.declared.names.Conn.{Conn}
use Rattle.vpn_base.specs.declared.names.Role.{Role}
use Rattle.vpn_base.specs.declared.names.Role.TheVariants.{Server, Client}
use Rattle.vpn_base.specs.declared.names.Sid.{Sid}
use Rattle.vpn_base.specs.declared.names.Timers.{Timers}
use Rattle.tls_crypt.specs.Packets.{Wrapping}
use Rattle.control_link.specs.Calls as link
use Rattle.peer_table.specs.declared.outcomes.Turn.{Turn}
use Rattle.peer_table.specs.declared.outcomes.Turn.TheVariants.{Going}
use Rattle.peer_table.specs.KeySessions.{Session, closed, in_transition, newest_usable, retiring, session_at}
use Rattle.peer_table.specs.Peer.{Opens, Outcome, Peer, answered, began, peer_begun, remote_of, reset_by}
use Rattle.peer_table.specs.ControlPackets.{with_next}
use Rattle.peer_table.specs.Exchange.{session_closed}
use Rattle.peer_table.specs.Places.{changed_at}
use Rattle.peer_table.specs.Time.{Ticking, gone_by, is_late, is_open_session, renewed, renews, resent, resent_in, retired, retired_if, staying, ticked, ticked_idle, ticked_late}
use Rattle.peer_session.proofs.Retired.{AnyName, Facts, IsOver, IsRetired, OfPeer, Stays, closed_over, over_stays, retired_later, retired_stays}
use Rattle.peer_session.proofs.RetiredCalls.{gone_on_stays, next_stays, ready_stays}

-- ---- what is due, and the next session

resent_in_stays : {P : Facts} → Stays P → (n at : ℕ) (c : Outcome Turn) (s : Option Session) → OfPeer P c.peer → OfPeer P (resent_in n at c s).peer
resent_in_stays stays n at c None is = is
resent_in_stays stays n at c (Some s) is = gone_on_stays stays n (link.ticked s.link c.peer.envelope (remote_of c.peer) at) c is

resent_stays : {P : Facts} → Stays P → (at : ℕ) (numbers : List ℕ) (c : Outcome Turn) → OfPeer P c.peer → OfPeer P (resent at numbers c).peer
resent_stays stays at [] c is = is
resent_stays stays at (n ∷ numbers) c is =
    resent_stays stays at numbers (resent_in n at c (slice_get c.peer.sessions n)) (resent_in_stays stays n at c (slice_get c.peer.sessions n) is)

renewed_stays : {P : Facts} → Stays P → (t : Ticking) (b : Bool) (c : Outcome Turn) → OfPeer P c.peer → OfPeer P (renewed t b c).peer
renewed_stays stays t false c is = is
renewed_stays stays t true c is =
    ready_stays stays (length c.peer.sessions) t.at (record c { peer = with_next t.next_conn t.at c.peer; doings = c.doings ++ Opens t.next_conn ∷ [] })
    (next_stays stays t.next_conn t.at c.peer is)

-- ---- the retired session

over_if : (o : Option ℕ) (is_open usable : Bool) (n : ℕ) → retired_if o is_open usable ≡ Some n → usable ≡ false
over_if None is_open usable n is = absurd (none-some n is)
over_if (Some m) true true n is = absurd (none-some n is)
over_if (Some m) true false n is = refl
over_if (Some m) false usable n is = absurd (none-some n is)

-- what is closed can no longer be used
closed_is_over : (p : Peer) (at n : ℕ) → retired p at ≡ Some n → OfPeer (AnyName (IsOver at)) p
unfolding retired
closed_is_over p at n is = over_if (retiring p.sessions) (is_open_session (session_at p.sessions (retiring p.sessions))) (in_transition p.timers at p.sessions) n is

over_is_retired : (at : ℕ) (timers : Timers) (ss : List Session) → IsOver at timers ss → IsRetired at timers ss
over_is_retired at timers ss is = λ n s older here shut. is

-- none is closed
none_closed : {P : Facts} → Stays P → (t : Ticking) (p : Peer) → OfPeer P p → OfPeer P (gone_by p t None).peer
none_closed stays t p is =
    renewed_stays stays t (renews p t) (resent t.at (staying p None) (answered p Going)) (resent_stays stays t.at (staying p None) (answered p Going) is)

-- a session that is closed leaves it so
abbrev pub ClosingKeeps : Facts → Type 0
ClosingKeeps P = (timers : Timers) (name : Option (List ℕ)) (n : ℕ) (ss : List Session) → P timers name ss → P timers name (changed_at n closed ss)

one_closed : {P : Facts} → Stays P → ClosingKeeps P → (t : Ticking) (p : Peer) (n : ℕ) → OfPeer P p → OfPeer P (gone_by p t (Some n)).peer
one_closed stays closes t p n is =
    let mid = resent t.at (staying p (Some n)) (answered p Going) in
    renewed_stays stays t (renews p t) (session_closed (Some n) mid)
    (closes mid.peer.timers mid.peer.name n mid.peer.sessions (resent_stays stays t.at (staying p (Some n)) (answered p Going) is))

-- ---- time has passed

-- by the moment at which one was last closed
gone_by_retired : (since after : ℕ) (t : Ticking) (p : Peer) (o : Option ℕ) → retired p t.at ≡ o → since ≤ after → ((n : ℕ) → o ≡ Some n → after ≡ t.at) →
    OfPeer (AnyName (IsRetired since)) p → OfPeer (AnyName (IsRetired after)) (gone_by p t o).peer
gone_by_retired since after t p None e le told is = none_closed (retired_stays after) t p (retired_later since after p.timers p.sessions le is)
gone_by_retired since after t p (Some n) e le told is =
    let now = gone_by p t (Some n) in
    subst (λ (at : ℕ). OfPeer (AnyName (IsRetired at)) now.peer) (sym (told n refl))
    (over_is_retired t.at now.peer.timers now.peer.sessions
    (one_closed (over_stays t.at) (λ timers name n ss is. closed_over t.at timers n ss is) t p n (closed_is_over p t.at n e)))

idle_retired : (since after : ℕ) (t : Ticking) (p : Peer) (b : Bool) → since ≤ after → ((n : ℕ) → b ≡ false → retired p t.at ≡ Some n → after ≡ t.at) →
    OfPeer (AnyName (IsRetired since)) p → OfPeer (AnyName (IsRetired after)) (ticked_idle p t b).peer
idle_retired since after t p true le told is = retired_later since after p.timers p.sessions le is
idle_retired since after t p false le told is = gone_by_retired since after t p (retired p t.at) refl le (λ n is_one. told n refl is_one) is

late_retired : (since after : ℕ) (t : Ticking) (p : Peer) (b : Bool) → since ≤ after → ((n : ℕ) → b ≡ false → t.idle ≡ false → retired p t.at ≡ Some n → after ≡ t.at) →
    OfPeer (AnyName (IsRetired since)) p → OfPeer (AnyName (IsRetired after)) (ticked_late p t b).peer
late_retired since after t p true le told is = retired_later since after p.timers p.sessions le is
late_retired since after t p false le told is = idle_retired since after t p t.idle le (λ n busy is_one. told n refl busy is_one) is

pub tick_retired : (since after : ℕ) (t : Ticking) (p : Peer) → since ≤ after → ((n : ℕ) → is_late p t ≡ false → t.idle ≡ false → retired p t.at ≡ Some n → after ≡ t.at) →
    OfPeer (AnyName (IsRetired since)) p → OfPeer (AnyName (IsRetired after)) (ticked t p).peer
unfolding ticked
tick_retired since after t p le told is = late_retired since after t p (is_late p t) le told is

-- what neither a change nor a closing alters stays so
gone_stays : {P : Facts} → Stays P → ClosingKeeps P → (t : Ticking) (p : Peer) (o : Option ℕ) → OfPeer P p → OfPeer P (gone_by p t o).peer
gone_stays stays closes t p None is = none_closed stays t p is
gone_stays stays closes t p (Some n) is = one_closed stays closes t p n is

idle_stays : {P : Facts} → Stays P → ClosingKeeps P → (t : Ticking) (p : Peer) (b : Bool) → OfPeer P p → OfPeer P (ticked_idle p t b).peer
idle_stays stays closes t p true is = is
idle_stays stays closes t p false is = gone_stays stays closes t p (retired p t.at) is

late_stays : {P : Facts} → Stays P → ClosingKeeps P → (t : Ticking) (p : Peer) (b : Bool) → OfPeer P p → OfPeer P (ticked_late p t b).peer
late_stays stays closes t p true is = is
late_stays stays closes t p false is = idle_stays stays closes t p t.idle is

pub tick_stays : {P : Facts} → Stays P → ClosingKeeps P → (t : Ticking) (p : Peer) → OfPeer P p → OfPeer P (ticked t p).peer
unfolding ticked
tick_stays stays closes t p is = late_stays stays closes t p (is_late p t) is

-- ---- the beginning

begun_retired : (at : ℕ) (role : Role) (wraps : Wrapping) (own : Sid) (timers : Timers) (conn : Conn) (now : ℕ) → OfPeer (AnyName (IsRetired at)) (peer_begun role wraps own timers conn now)
unfolding retiring newest_usable
begun_retired at role wraps own timers conn now = λ n s older here shut. absurd (none-some n older)

reset_stays : {P : Facts} → Stays P → (role : Role) (now : ℕ) (c : Outcome Turn) → OfPeer P c.peer → OfPeer P (reset_by role now c).peer
reset_stays stays Server now c is = is
reset_stays stays Client now c is = ready_stays stays 0 now c is

-- a client begins
pub began_stays : {P : Facts} → Stays P → (role : Role) (wraps : Wrapping) (own : Sid) (timers : Timers) (conn : Conn) (now : ℕ)
    → OfPeer P (peer_begun role wraps own timers conn now) → OfPeer P (began role wraps own timers conn now).peer
unfolding began
began_stays stays role wraps own timers conn now is =
    reset_stays stays role now (record { peer = peer_begun role wraps own timers conn now; doings = Opens conn ∷ []; datagrams = []; answer = Going }) is

pub began_retired : (at : ℕ) (role : Role) (wraps : Wrapping) (own : Sid) (timers : Timers) (conn : Conn) (now : ℕ)
    → OfPeer (AnyName (IsRetired at)) (began role wraps own timers conn now).peer
began_retired at role wraps own timers conn now =
    began_stays (retired_stays at) role wraps own timers conn now (begun_retired at role wraps own timers conn now)
