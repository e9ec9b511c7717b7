-- What time leaves of a client's session.
use Rattle.std.proofs.Common.{◌≡◌, ℕ, suc, ◌+◌, ◌≤◌, Bool, true, false, List, [], ◌∷◌, ◌++◌, drop, length, slice_get, Option, None, Some, refl, sym, ap, subst, ◌∙◌, arith}
use Rattle.vpn_base.specs.declared.names.Role.{Role}
use Rattle.vpn_links.specs.Actions.{Action}
use Rattle.peer_table.specs.declared.outcomes.Turn.{Turn}
use Rattle.peer_table.specs.declared.outcomes.Turn.TheVariants.{Going}
use Rattle.peer_table.specs.ControlPackets.{with_next}
use Rattle.peer_table.specs.Exchange.{closing, session_closed}
use Rattle.peer_table.specs.KeySessions.{Session}
use Rattle.peer_table.specs.Outboxes.{actions_of}
use Rattle.peer_table.specs.Peer.{Closes, Doing, Opens, Outcome, Peer, Puts, Writes, answered, ready_sent_in}
use Rattle.peer_table.specs.Time.{Ticking, is_late, renewed, renews, resent, resent_in, retired, staying, ticked, ticked_idle, ticked_late}
use Rattle.server_table.specs.Courses.{opened_by}
use Rattle.server_state.specs.Calls.{opens_in}

-- ---- how many connections are opened

opened_more : (xs ys : List Doing) → opened_by (xs ++ ys) ≡ opened_by xs + opened_by ys
opened_more [] ys = omega arith
opened_more (Opens conn ∷ xs) ys = omega (arith, opened_more xs ys)
opened_more (Puts conn bytes ∷ xs) ys = opened_more xs ys
opened_more (Writes conn bytes ∷ xs) ys = opened_more xs ys
opened_more (Closes conn ∷ xs) ys = opened_more xs ys

opens_same : (role : Role) (doings : List Doing) → opens_in (actions_of role doings) ≡ opened_by doings
opens_same role [] = refl
opens_same role (Opens conn ∷ doings) = ap suc (opens_same role doings)
opens_same role (Puts conn bytes ∷ doings) = opens_same role doings
opens_same role (Writes conn bytes ∷ doings) = opens_same role doings
opens_same role (Closes conn ∷ doings) = opens_same role doings

drop_front : (xs ys : List Action) → drop (length xs) (xs ++ ys) ≡ ys
drop_front [] ys = refl
drop_front (x ∷ xs) ys = drop_front xs ys

-- ---- the session

-- it keeps the other end's session id and the name, and opens at most so many connections
pub record Keeps (most : ℕ) (p : Peer) (o : Outcome Turn) : Type 0 where
  pub remote : o.peer.remote ≡ p.remote
  pub name : o.peer.name ≡ p.name
  pub few : opened_by o.doings ≤ most

resent_in_keeps : (p : Peer) (n at : ℕ) (o : Outcome Turn) (s : Option Session) → Keeps 0 p o → Keeps 0 p (resent_in n at o s)
resent_in_keeps p n at o None h = h
resent_in_keeps p n at o (Some s) h = record { remote = h.remote; name = h.name; few = h.few }

resent_keeps : (p : Peer) (at : ℕ) (numbers : List ℕ) (o : Outcome Turn) → Keeps 0 p o → Keeps 0 p (resent at numbers o)
resent_keeps p at [] o h = h
resent_keeps p at (n ∷ numbers) o h =
    resent_keeps p at numbers (resent_in n at o (slice_get o.peer.sessions n)) (resent_in_keeps p n at o (slice_get o.peer.sessions n) h)

closing_opens : (s : Option Session) → opened_by (closing s) ≡ 0
closing_opens None = refl
closing_opens (Some s) = refl

no_more : (xs ys : List Doing) (n : ℕ) → opened_by xs ≤ n → opened_by ys ≡ 0 → opened_by (xs ++ ys) ≤ n
no_more xs ys n few none = omega (arith, few, none, opened_more xs ys)

closed_keeps : (p : Peer) (n : Option ℕ) (o : Outcome Turn) → Keeps 0 p o → Keeps 0 p (session_closed n o)
closed_keeps p None o h = h
closed_keeps p (Some n) o h = record {
  remote = h.remote;
  name = h.name;
  few = no_more o.doings (closing (slice_get o.peer.sessions n)) 0 h.few (closing_opens (slice_get o.peer.sessions n));
}

ready_keeps : (p : Peer) (n at : ℕ) (o : Outcome Turn) (s : Option Session) → Keeps 1 p o → Keeps 1 p (ready_sent_in n at o s)
ready_keeps p n at o None h = h
ready_keeps p n at o (Some s) h = record { remote = h.remote; name = h.name; few = h.few }

one_more : (xs ys : List Doing) → opened_by xs ≤ 0 → opened_by ys ≡ 1 → opened_by (xs ++ ys) ≤ 1
one_more xs ys few one = omega (arith, few, one, opened_more xs ys)

renewed_keeps : (p : Peer) (t : Ticking) (b : Bool) (o : Outcome Turn) → Keeps 0 p o → Keeps 1 p (renewed t b o)
renewed_keeps p t false o h = record { remote = h.remote; name = h.name; few = omega (arith, h.few) }
renewed_keeps p t true o h =
    let begun : Outcome Turn = record o { peer = with_next t.next_conn t.at o.peer; doings = o.doings ++ Opens t.next_conn ∷ [] } in
    ready_keeps p (length o.peer.sessions) t.at begun (slice_get begun.peer.sessions (length o.peer.sessions))
    (record { remote = h.remote; name = h.name; few = one_more o.doings (Opens t.next_conn ∷ []) h.few refl })

idle_keeps : (p : Peer) (t : Ticking) (b : Bool) → Keeps 1 p (ticked_idle p t b)
idle_keeps p t true = record { remote = refl; name = refl; few = omega arith }
idle_keeps p t false =
    let none : Keeps 0 p (answered p Going) = record { remote = refl; name = refl; few = omega arith } in
    renewed_keeps p t (renews p t) (session_closed (retired p t.at) (resent t.at (staying p (retired p t.at)) (answered p Going)))
    (closed_keeps p (retired p t.at) (resent t.at (staying p (retired p t.at)) (answered p Going))
    (resent_keeps p t.at (staying p (retired p t.at)) (answered p Going) none))

late_keeps : (p : Peer) (t : Ticking) (b : Bool) → Keeps 1 p (ticked_late p t b)
late_keeps p t true = record { remote = refl; name = refl; few = omega arith }
late_keeps p t false = idle_keeps p t t.idle

pub ticked_keeps : (p : Peer) (t : Ticking) → Keeps 1 p (ticked t p)
unfolding ticked
ticked_keeps p t = late_keeps p t (is_late p t)

-- ---- what the outbox tells of it

-- the effects of a session's call, behind those that were there
pub opens_behind : (role : Role) (doings : List Doing) (old new : List Action) → new ≡ old ++ actions_of role doings → opened_by doings ≤ 1 → opens_in (drop (length old) new) ≤ 1
opens_behind role doings old new is few =
    subst (λ n. n ≤ 1) (sym (ap (λ l. opens_in (drop (length old) l)) is ∙ ap opens_in (drop_front old (actions_of role doings)) ∙ opens_same role doings)) few

pub opens_are : (role : Role) (doings : List Doing) (old new : List Action) → new ≡ old ++ actions_of role doings
    → opens_in (drop (length old) new) ≡ opens_in (actions_of role doings)
opens_are role doings old new is = ap (λ l. opens_in (drop (length old) l)) is ∙ ap opens_in (drop_front old (actions_of role doings))
