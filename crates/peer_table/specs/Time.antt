-- Time passes for one client's session, and the session ends.
use Rattle.std.specs.Prelude.{ℕ, ◌*◌, ◌^◌, ◌==◌, ◌&&◌, ◌||◌, nat_le, not, Bool, true, false, List, [], ◌∷◌, ◌++◌, map, length, Option, Some, None, slice_get, if◌then◌else◌}
use Rattle.std.specs.List.{filter}
use Rattle.vpn_base.specs.declared.names.Cause.TheVariants.{HandWindow, PingRestart}
use Rattle.vpn_base.specs.declared.names.Conn.{Conn}
use Rattle.vpn_base.specs.declared.names.Timers.{Timers}
use Rattle.control_link.specs.Calls as link
use Rattle.peer_table.specs.declared.outcomes.Turn.{Turn}
use Rattle.peer_table.specs.declared.outcomes.Turn.TheVariants.{Going, Over}
use Rattle.peer_table.specs.KeySessions.{Session, began_before, closed, has_keys, has_passed, in_transition, is_open, newest_session, open_numbers, retiring, session_at}
use Rattle.peer_table.specs.Peer.{Closes, Doing, Opens, Outcome, Peer, answered, gone_on, ready_sent, remote_of}
use Rattle.peer_table.specs.ControlPackets.{newest_is_finished, with_next}
use Rattle.peer_table.specs.Exchange.{session_closed}

-- a moment at which time is looked at, the number of the next engine connection, whether its client is
-- established, and whether the other end was silent for too long, by the rule of this end's role
pub record Ticking : Type 0 where
  pub at : ℕ
  pub next_conn : Conn
  pub established : Bool
  pub idle : Bool

-- the same from its parts
abbrev pub ticking : ℕ → Conn → Bool → Bool → Ticking
ticking at next_conn established idle = record { at = at; next_conn = next_conn; established = established; idle = idle }

-- whether the newest session had its time to finish and did not
abbrev pub is_late : Peer → Ticking → Bool
is_late p t = not (newest_is_finished t.established p.sessions) && began_before p.timers.hand t.at (newest_session p.sessions)

-- ---- what is due is sent again

-- in one session
abbrev pub resent_in : ℕ → ℕ → Outcome Turn → Option Session → Outcome Turn
resent_in n at so_far None = so_far
resent_in n at so_far (Some s) = gone_on n (link.ticked s.link so_far.peer.envelope (remote_of so_far.peer) at) so_far

-- in the sessions of these numbers, one after the other
abbrev pub resent : ℕ → List ℕ → Outcome Turn → Outcome Turn
resent at [] so_far = so_far
resent at (n ∷ numbers) so_far = resent at numbers (resent_in n at so_far (slice_get so_far.peer.sessions n))

-- ---- the retired session is closed

-- whether a session that may be there is open
abbrev pub is_open_session : Option Session → Bool
is_open_session None = false
is_open_session (Some s) = is_open s

-- the one before the last with keys, where it is open and no longer usable
abbrev pub retired_if : Option ℕ → Bool → Bool → Option ℕ
retired_if (Some n) true false = Some n
retired_if n is_open usable = None

-- the session that is to be closed now
unfoldable pub retired : Peer → ℕ → Option ℕ
retired p at =
    retired_if (retiring p.sessions) (is_open_session (session_at p.sessions (retiring p.sessions))) (in_transition p.timers at p.sessions)

-- whether a number that may be there is this one
abbrev pub is_number : Option ℕ → ℕ → Bool
is_number None m = false
is_number (Some n) m = n == m

-- the open sessions that stay open, in order
abbrev pub staying : Peer → Option ℕ → List ℕ
staying p retired = filter (λ n. not (is_number retired n)) (open_numbers p.sessions)

-- ---- renegotiation

-- whether a session's keys were used, or held, for so long that new ones are due
abbrev pub is_worn : Timers → ℕ → Option Session → Bool
is_worn timers at None = false
is_worn timers at (Some s) =
    (not (timers.reneg == 0) && has_passed timers.reneg s.began at) || (has_keys s && nat_le (255 * 2 ^ 24) s.sealed)

-- whether the next session is to begin: the newest one is finished, and the client established
abbrev pub renews : Peer → Ticking → Bool
renews p t = newest_is_finished t.established p.sessions && t.established && is_worn p.timers t.at (newest_session p.sessions)

-- the next session begins: its connection is opened, its soft reset sent
abbrev pub renewed : Ticking → Bool → Outcome Turn → Outcome Turn
renewed t false so_far = so_far
renewed t true so_far =
    ready_sent (length so_far.peer.sessions) t.at
    (record so_far { peer = with_next t.next_conn t.at so_far.peer; doings = so_far.doings ++ Opens t.next_conn ∷ [] })

-- ---- in order

-- what is due is sent again in the sessions that stay open, the retired one is closed, and the next one begins; where the wrap ids end
-- the client ends, once all of this was done
abbrev pub gone_by : Peer → Ticking → Option ℕ → Outcome Turn
gone_by p t retired = renewed t (renews p t) (session_closed retired (resent t.at (staying p retired) (answered p Going)))

-- silence for too long ends the client
abbrev pub ticked_idle : Peer → Ticking → Bool → Outcome Turn
ticked_idle p t true = answered p (Over PingRestart)
ticked_idle p t false = gone_by p t (retired p t.at)

-- a negotiation that did not finish in time ends it
abbrev pub ticked_late : Peer → Ticking → Bool → Outcome Turn
ticked_late p t true = answered p (Over HandWindow)
ticked_late p t false = ticked_idle p t t.idle

-- time has passed
unfoldable pub ticked : Ticking → Peer → Outcome Turn
ticked t p = ticked_late p t (is_late p t)

-- ---- the end

-- the connections of these sessions that are open are closed
abbrev pub closings : List Session → List Doing
closings [] = []
closings (s ∷ sessions) = if s.is_open then Closes s.link.conn ∷ closings sessions else closings sessions

-- every session is closed
abbrev pub all_closed : Peer → Peer
all_closed p = record p { sessions = map closed p.sessions }
