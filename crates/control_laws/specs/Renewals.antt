-- When the keys of a session are to be renewed, and what it means that they are.
use Rattle.std.specs.Prelude.{◌≡◌, ◌≢◌, ◌≤◌, ◌+◌, ◌*◌, ◌^◌, ℕ, suc, true, length, Some, slice_get}
use Rattle.vpn_base.specs.declared.names.Timers.{Timers}
use Rattle.peer_table.specs.declared.outcomes.Turn.{Turn}
use Rattle.peer_table.specs.KeySessions.{Session}
use Rattle.peer_table.specs.Peer.{Outcome, Peer}
use Rattle.peer_table.specs.Time.{Ticking}

-- New keys are due for a session that has some: it began so many seconds ago as sessions last, where they do not last for ever, or the packet
-- id 0xFF000000 was sealed under them.
pub data AreDue (timers : Timers) (moment : ℕ) (s : Session) : Type 0 where
  AreOld : timers.reneg ≢ 0 → s.began + 1000 * timers.reneg ≤ moment → AreDue timers moment s
  AreWorn : 255 * 2 ^ 24 ≤ s.sealed → AreDue timers moment s

-- behind all sessions stands one more, which is open, and begins now on the next connection
pub record IsRenewed (p : Peer) (t : Ticking) (o : Outcome Turn) : Type 0 where
  pub session : Session
  pub there : slice_get o.peer.sessions (length p.sessions) ≡ Some session
  pub one_more : length o.peer.sessions ≡ suc (length p.sessions)
  pub began : session.began ≡ t.at
  pub is_open : session.is_open ≡ true
  pub conn : session.link.conn ≡ t.next_conn
